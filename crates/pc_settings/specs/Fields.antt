-- The keys of texts.
use Rattle.std.specs.Prelude.{ℕ, List, codes}
use Rattle.pc_settings.specs.declared.field.Field.{Field}
use Rattle.pc_settings.specs.declared.field.Field.TheVariants as field

-- how a key is written in its table
abbrev pub key_of : Field → List ℕ
key_of field.Cpus = codes "cpus"
key_of field.Until = codes "until"
key_of field.Threads = codes "thread"
key_of field.Queue = codes "queue"
key_of field.Mask = codes "mask"
key_of field.Steps = codes "steps"
key_of field.Start = codes "start"
key_of field.Level = codes "level"
key_of field.Sleeps = codes "sleeps"
key_of field.Restarts = codes "restart"
key_of field.Cpu = codes "cpu"
key_of field.Turn = codes "turn"
key_of field.Variants = codes "variant"
key_of field.Name = codes "name"
key_of field.Order = codes "order"
key_of field.Steals = codes "steals"
key_of field.Quantum = codes "quantum"
key_of field.Group = codes "group"
key_of field.Delay = codes "delay"
key_of field.Cost = codes "cost"
key_of field.Urgent = codes "urgent"
key_of field.Keep = codes "keep"

-- how a key is written in what the program says
abbrev pub key_text : Field → List ℕ
key_text field.Cpus = codes "cpus"
key_text field.Until = codes "until"
key_text field.Threads = codes "thread"
key_text field.Queue = codes "thread.queue"
key_text field.Mask = codes "thread.mask"
key_text field.Steps = codes "thread.steps"
key_text field.Start = codes "thread.start"
key_text field.Level = codes "thread.level"
key_text field.Sleeps = codes "thread.sleeps"
key_text field.Restarts = codes "restart"
key_text field.Cpu = codes "restart.cpu"
key_text field.Turn = codes "restart.turn"
key_text field.Variants = codes "variant"
key_text field.Name = codes "variant.name"
key_text field.Order = codes "variant.order"
key_text field.Steals = codes "variant.steals"
key_text field.Quantum = codes "variant.quantum"
key_text field.Group = codes "variant.group"
key_text field.Delay = codes "variant.delay"
key_text field.Cost = codes "variant.cost"
key_text field.Urgent = codes "variant.urgent"
key_text field.Keep = codes "variant.keep"
