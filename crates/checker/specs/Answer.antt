-- What checking answers, as the code has it (01, 'Numbers from the input').
use Rattle.std.specs.Prelude.{ℕ}
use Rattle.verdict.specs.Verdict.{Verdict as Judgement}
use Rattle.load.specs.declared.Loaded.{Loaded}
use Rattle.checker.specs.declared.Verdict.{Verdict}

abbrev pub answer : Judgement → Verdict
answer v = record { number = v.number; structs = v.structs; steps = v.steps; commands = v.commands; depth = v.depth }

-- of an accepted program, by its structs, steps, commands and depth
abbrev pub counts_verdict : ℕ → ℕ → ℕ → ℕ → Verdict
counts_verdict a b c d = record { number = 0; structs = a; steps = b; commands = c; depth = d }

abbrev pub approved : Loaded → Verdict
approved z = counts_verdict z.structs z.steps z.commands z.depth
