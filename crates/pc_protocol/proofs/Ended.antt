-- A run of one CPU and a thread, step by step, to its end.
use Rattle.std.proofs.Common.{◌≡◌, ◌<◌, ◌==◌, ℕ, zero, suc, true, false, [], ◌∷◌, Some, None, refl, inl, inr, arith}
use Rattle.std.proofs.lemmas.Bool.Decides.{nat_tests}
use Rattle.pc_calls.specs.declared.call.Call.TheVariants as call
use Rattle.pc_calls.specs.declared.call.EnvCall.TheVariants.{Create, Die}
use Rattle.pc_calls.specs.declared.event.Reply.TheVariants as reply
use Rattle.pc_calls.specs.declared.refusal.Refusal.TheVariants as refusal
use Rattle.pc_calls.specs.declared.leaving.Leaving.TheVariants as how
use Rattle.pc_kernel.specs.Steps.{after, at}
use Rattle.pc_policy.specs.Rules.{usual}
use Rattle.pc_world.specs.PlainWorld.{published}
use Rattle.pc_world.specs.Steps.{stealable}
use Rattle.pc_protocol.specs.Protocol.{Protocol, begins, opening, picked, puts, roused, telling, waits, wake}
use Rattle.pc_protocol.specs.Protocol.{refused as steal_refused}
use Rattle.pc_protocol.specs.Resting.{IsAtRest}
use Rattle.pc_protocol.specs.Running.{Drive, Driven, SomeRunIsOver, alone, asked, brief, created, onward}
use Rattle.pc_protocol.proofs.Worked.{committed, consumed, emptied, slept}

abbrev p0 : Protocol
p0 = opening (λ c. usual) alone

abbrev p1 : Protocol
p1 = record p0 { world = record p0.world { kernel = after p0.world.kernel (call.Env (Create 0 true 1)) } }

-- the agent looks, acts and waits
abbrev p2 : Protocol
p2 = record p1 { world = published p1.world 0; stages = at p1.stages 0 (puts 1 0 []) }

abbrev p3 : Protocol
p3 = record p2 { world = slept (committed (consumed p2.world 0) 0 1 0) 0 1; stages = at p2.stages 0 waits }

-- the thread dies
abbrev p4 : Protocol
p4 = record p3 { world = record p3.world { kernel = after p3.world.kernel (call.Env (Die 0 5)) }; boxes = telling 0 wake p3.boxes }

-- the agent takes its note, looks, acts and waits
abbrev p5 : Protocol
p5 = record p4 { stages = at p4.stages 0 begins; mails = at p4.mails 0 []; boxes = at p4.boxes 0 [] }

abbrev p6 : Protocol
p6 = record p5 { world = published p5.world 0; stages = at p5.stages 0 (puts 2 1 []) }

abbrev p7 : Protocol
p7 = record p6 { world = slept (emptied (consumed p6.world 0) 0) 0 2; stages = at p6.stages 0 waits }

abbrev r1 : Drive
r1 = record { protocol = p1; left = asked (brief ∷ []); told = []; blocked = None }

abbrev r2 : Drive
r2 = record r1 { protocol = p2 }

abbrev r3 : Drive
r3 = record r2 { protocol = p3; told = 0 ∷ [] }

abbrev r4 : Drive
r4 = record { protocol = p4; left = at r3.left 0 []; told = []; blocked = None }

abbrev r5 : Drive
r5 = record r4 { protocol = p5 }

abbrev r6 : Drive
r6 = record r5 { protocol = p6 }

abbrev r7 : Drive
r7 = record r6 { protocol = p7 }

d1 : Driven (λ c. usual) alone (brief ∷ []) r1
d1 = created (
  p1,
  record {
    called = record {
      call = Create 0 true 1;
      told = reply.Posted record { thread = Some 0; number = Some 1; queue = 0; aseq = 1; woken = None };
      step = record { tells = refl; after = refl };
      stages = refl;
      mails = refl;
      boxes = refl;
    };
    is_made = refl;
    posted = record { thread = Some 0; number = Some 1; queue = 0; aseq = 1; woken = None };
    answered = refl;
  },
  refl,
)

d2 : Driven (λ c. usual) alone (brief ∷ []) r2
d2 = onward d1 (inl (
  0,
  record {
    step = record { there = refl; step = inl record { at_begin = refl; told = reply.Published 0 1; step = (refl, refl); stages = refl; mails = refl; boxes = refl } };
    left = refl;
    told = refl;
    blocked = refl;
  },
))

d3 : Driven (λ c. usual) alone (brief ∷ []) r3
d3 = onward d2 (inl (
  0,
  record {
    step = record {
      there = refl;
      step = inr (inr (inl record {
        n = 1;
        k = 0;
        has_read = refl;
        asking = false;
        acted = committed (consumed p2.world 0) 0 1 0;
        acts = picked (reply.Consumed 1) (reply.Committed 0 0) (consumed p2.world 0, (refl, refl), (committed (consumed p2.world 0) 0 1 0, (refl, refl), refl)) (λ e. cc);
        told = reply.Done;
        sleeps = record { tells = refl; after = refl };
        stages = refl;
        mails = refl;
        boxes = refl;
      }));
    };
    left = refl;
    told = refl;
    blocked = refl;
  },
))

d4 : Driven (λ c. usual) alone (brief ∷ []) r4
d4 = onward d3 (inr (inr (inl (
  0,
  record {
    free = refl;
    before = [];
    behind = [];
    was_told = refl;
    thread = 0;
    runs = refl;
    deed = record { leaving = how.Die; ran = 5 };
    rest = [];
    next = refl;
    accepted = record {
      called = record {
        call = Die 0 5;
        told = reply.Posted record { thread = Some 0; number = Some 2; queue = 0; aseq = 2; woken = Some 0 };
        step = record { tells = refl; after = refl };
        stages = refl;
        mails = refl;
        boxes = refl;
      };
      is_made = refl;
      posted = record { thread = Some 0; number = Some 2; queue = 0; aseq = 2; woken = Some 0 };
      answered = refl;
    };
    left = refl;
    told = refl;
    blocked = refl;
  },
))))

d5 : Driven (λ c. usual) alone (brief ∷ []) r5
d5 = onward d4 (inl (
  0,
  record {
    step = record {
      there = refl;
      step = inr (inr (inr record {
        waiting = refl;
        before = [];
        note = wake;
        behind = [];
        in_box = refl;
        read = p4.world;
        reads = refl;
        takes = roused;
        mails = refl;
        stages = refl;
      }));
    };
    left = refl;
    told = refl;
    blocked = refl;
  },
))

d6 : Driven (λ c. usual) alone (brief ∷ []) r6
d6 = onward d5 (inl (
  0,
  record {
    step = record { there = refl; step = inl record { at_begin = refl; told = reply.Published 1 1; step = (refl, refl); stages = refl; mails = refl; boxes = refl } };
    left = refl;
    told = refl;
    blocked = refl;
  },
))

apart : (t : ℕ) → (0 == suc t) ≡ false
apart t = grind (arith, nat_tests)

none_left : (t : ℕ) → stealable (emptied (consumed p6.world 0) 0) 0 t ≡ None
none_left zero = refl
none_left (suc t) = rw (apart t) refl

d7 : Driven (λ c. usual) alone (brief ∷ []) r7
d7 = onward d6 (inl (
  0,
  record {
    step = record {
      there = refl;
      step = inr (inr (inl record {
        n = 2;
        k = 1;
        has_read = refl;
        asking = false;
        acted = emptied (consumed p6.world 0) 0;
        acts = steal_refused (reply.Consumed 1) refusal.NothingToSteal
            (consumed p6.world 0, (refl, refl), (emptied (consumed p6.world 0) 0, (refl, refl), (emptied (consumed p6.world 0) 0, (None, none_left, record { refused = refl; same = refl }), refl)));
        told = reply.Done;
        sleeps = record { tells = refl; after = refl };
        stages = refl;
        mails = refl;
        boxes = refl;
      }));
    };
    left = refl;
    told = refl;
    blocked = refl;
  },
))

at_rest : IsAtRest p7
at_rest = record { waiting = waiting; empty = empty }
  where
    waiting : (c : ℕ) → c < 1 → p7.stages c ≡ waits
    waiting zero low = refl
    waiting (suc c) low = absurd (omega arith)

    empty : (c : ℕ) → c < 1 → p7.boxes c ≡ []
    empty zero low = refl
    empty (suc c) low = absurd (omega arith)

pub some_over : SomeRunIsOver
some_over = (r7, record { driven = d7; still = record { rests = at_rest; none_told = refl; none_blocked = refl } })
