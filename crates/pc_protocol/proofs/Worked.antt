-- A run of two CPUs and a thread, step by step, to a state at rest.
use Rattle.std.proofs.Common.{◌≡◌, ◌<◌, ◌==◌, ℕ, zero, suc, true, false, [], ◌∷◌, Some, None, refl, inl, inr, arith}
use Rattle.std.proofs.lemmas.Bool.{false≢true}
use Rattle.std.proofs.lemmas.Bool.Decides.{nat_tests}
use Rattle.pc_calls.specs.AgentCalls.{commits}
use Rattle.pc_calls.specs.declared.call.AgentCall.TheVariants.{Sleep}
use Rattle.pc_calls.specs.declared.call.Call.TheVariants as call
use Rattle.pc_calls.specs.declared.call.EnvCall.TheVariants.{Create}
use Rattle.pc_calls.specs.declared.event.Reply.TheVariants as reply
use Rattle.pc_calls.specs.declared.refusal.Refusal.TheVariants as refusal
use Rattle.pc_kernel.specs.Steps.{after, at}
use Rattle.pc_agent.specs.PlainAgent.{taking_in}
use Rattle.pc_policy.specs.Rules.{usual}
use Rattle.pc_world.specs.PlainWorld.{PlainWorld, published, with_agent}
use Rattle.pc_world.specs.Steps.{stealable}
use Rattle.pc_protocol.specs.Protocol.{Comes, Protocol, begins, goes_on, news, opening, picked, puts, starts, summoned, telling, waits}
use Rattle.pc_protocol.specs.Protocol.{refused as steal_refused}
use Rattle.pc_protocol.specs.Resting.{IsAtRest, SomeStateRests, two}

-- what each step leads to
abbrev calling : Protocol → Protocol
calling p = record p { world = record p.world { kernel = after p.world.kernel (call.Env (Create 0 true 3)) } }

abbrev pub consumed : PlainWorld → ℕ → PlainWorld
consumed w c =
    record (with_agent w c (record (w.agents c) { sent_items = 0 })) { kernel = after w.kernel (call.Consume c (w.agents c).sent_items) }

abbrev pub committed : PlainWorld → ℕ → ℕ → ℕ → PlainWorld
committed w c n t = record (with_agent w c (record (w.agents c) { list = [] })) { kernel = after w.kernel (commits c t n) }

abbrev pub emptied : PlainWorld → ℕ → PlainWorld
emptied w c = with_agent w c (record (w.agents c) { list = [] })

abbrev pub slept : PlainWorld → ℕ → ℕ → PlainWorld
slept w c n = record w { kernel = after w.kernel (call.Agent (Sleep c n)) }

abbrev p0 : Protocol
p0 = opening (λ c. usual) two

abbrev p1 : Protocol
p1 = calling p0

-- CPU 0 looks, puts, and acts
abbrev p2 : Protocol
p2 = record p1 { world = published p1.world 0; stages = at p1.stages 0 (puts 1 0 (1 ∷ [])) }

abbrev p3 : Protocol
p3 = record { world = p2.world; stages = at p2.stages 0 (puts 1 0 []); mails = at p2.mails 1 (0 ∷ []); boxes = telling 1 news p2.boxes }

abbrev p4 : Protocol
p4 = record p3 { world = slept (committed (consumed p3.world 0) 0 1 0) 0 1; stages = at p3.stages 0 waits }

-- CPU 1 looks and acts, takes the note, looks and acts
abbrev p5 : Protocol
p5 = record p4 { world = published p4.world 1; stages = at p4.stages 1 (puts 0 1 []) }

abbrev p6 : Protocol
p6 = record p5 { world = slept (emptied (consumed p5.world 1) 1) 1 0; stages = at p5.stages 1 waits }

abbrev p7 : Protocol
p7 = record { world = with_agent p6.world 1 (taking_in ((0, 1) ∷ []) (p6.world.agents 1)); stages = at p6.stages 1 begins; mails = at p6.mails 1 []; boxes = at p6.boxes 1 [] }

abbrev p8 : Protocol
p8 = record p7 { world = published p7.world 1; stages = at p7.stages 1 (puts 0 2 []) }

abbrev p9 : Protocol
p9 = record p8 { world = slept (emptied (consumed p8.world 1) 1) 1 0; stages = at p8.stages 1 waits }

c1 : Comes (λ c. usual) two p1
c1 = goes_on starts (inl record {
  call = Create 0 true 3;
  told = reply.Posted record { thread = Some 0; number = Some 1; queue = 0; aseq = 1; woken = None };
  step = record { tells = refl; after = refl };
  stages = refl;
  mails = refl;
  boxes = refl;
})

c2 : Comes (λ c. usual) two p2
c2 = goes_on c1 (inr (inr (0, record { there = refl; step = inl record { at_begin = refl; told = reply.Published 0 1; step = (refl, refl); stages = refl; mails = refl; boxes = refl } })))

c3 : Comes (λ c. usual) two p3
c3 = goes_on c2 (inr (inr (
  0,
  record {
    there = refl;
    step = inr (inl record {
      n = 1;
      k = 0;
      before = [];
      to = 1;
      behind = [];
      at_put = refl;
      quiet = false;
      if_quiet = λ bad. absurd (false≢true bad);
      world = refl;
      stages = refl;
      mails = refl;
      boxes = refl;
    });
  },
)))

c4 : Comes (λ c. usual) two p4
c4 = goes_on c3 (inr (inr (
  0,
  record {
    there = refl;
    step = inr (inr (inl record {
      n = 1;
      k = 0;
      has_read = refl;
      asking = false;
      acted = committed (consumed p3.world 0) 0 1 0;
      acts = picked (reply.Consumed 1) (reply.Committed 0 0) (consumed p3.world 0, (refl, refl), (committed (consumed p3.world 0) 0 1 0, (refl, refl), refl)) (λ e. cc);
      told = reply.Done;
      sleeps = record { tells = refl; after = refl };
      stages = refl;
      mails = refl;
      boxes = refl;
    }));
  },
)))

c5 : Comes (λ c. usual) two p5
c5 = goes_on c4 (inr (inr (1, record { there = refl; step = inl record { at_begin = refl; told = reply.Published 1 0; step = (refl, refl); stages = refl; mails = refl; boxes = refl } })))

none_yet : (t : ℕ) → stealable (emptied (consumed p5.world 1) 1) 1 t ≡ None
none_yet t = refl

c6 : Comes (λ c. usual) two p6
c6 = goes_on c5 (inr (inr (
  1,
  record {
    there = refl;
    step = inr (inr (inl record {
      n = 0;
      k = 1;
      has_read = refl;
      asking = false;
      acted = emptied (consumed p5.world 1) 1;
      acts = steal_refused (reply.Consumed 0) refusal.NothingToSteal
          (consumed p5.world 1, (refl, refl), (emptied (consumed p5.world 1) 1, (refl, refl), (emptied (consumed p5.world 1) 1, (None, none_yet, record { refused = refl; same = refl }), refl)));
      told = reply.Done;
      sleeps = record { tells = refl; after = refl };
      stages = refl;
      mails = refl;
      boxes = refl;
    }));
  },
)))

c7 : Comes (λ c. usual) two p7
c7 = goes_on c6 (inr (inr (
  1,
  record {
    there = refl;
    step = inr (inr (inr record {
      waiting = refl;
      before = [];
      note = news;
      behind = [];
      in_box = refl;
      read = p7.world;
      reads = (p7.world, reply.Done, (refl, refl), refl);
      takes = summoned;
      mails = refl;
      stages = refl;
    }));
  },
)))

c8 : Comes (λ c. usual) two p8
c8 = goes_on c7 (inr (inr (1, record { there = refl; step = inl record { at_begin = refl; told = reply.Published 2 0; step = (refl, refl); stages = refl; mails = refl; boxes = refl } })))

apart : (t : ℕ) → (0 == suc t) ≡ false
apart t = grind (arith, nat_tests)

none_left : (t : ℕ) → stealable (emptied (consumed p8.world 1) 1) 1 t ≡ None
none_left zero = refl
none_left (suc t) = rw (apart t) refl

c9 : Comes (λ c. usual) two p9
c9 = goes_on c8 (inr (inr (
  1,
  record {
    there = refl;
    step = inr (inr (inl record {
      n = 0;
      k = 2;
      has_read = refl;
      asking = false;
      acted = emptied (consumed p8.world 1) 1;
      acts = steal_refused (reply.Consumed 0) refusal.NothingToSteal
          (consumed p8.world 1, (refl, refl), (emptied (consumed p8.world 1) 1, (refl, refl), (emptied (consumed p8.world 1) 1, (None, none_left, record { refused = refl; same = refl }), refl)));
      told = reply.Done;
      sleeps = record { tells = refl; after = refl };
      stages = refl;
      mails = refl;
      boxes = refl;
    }));
  },
)))

at_rest : IsAtRest p9
at_rest = record { waiting = waiting; empty = empty }
  where
    waiting : (c : ℕ) → c < 2 → p9.stages c ≡ waits
    waiting zero low = refl
    waiting (suc zero) low = refl
    waiting (suc (suc c)) low = absurd (omega arith)

    empty : (c : ℕ) → c < 2 → p9.boxes c ≡ []
    empty zero low = refl
    empty (suc zero) low = refl
    empty (suc (suc c)) low = absurd (omega arith)

pub some_rests : SomeStateRests
some_rests = (p9, record { comes = c9; rests = at_rest; runs = refl; idles = refl; knows = refl })
