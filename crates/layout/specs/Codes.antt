-- The codes of the schedule laid flat (01, 'Table and turns'; `memory/specs/Plan.antt` says what they mean): those of starts lie below fix-code.
use Rattle.std.specs.Prelude.{ℕ, ◌+◌}

-- a Fix begins, the schedule ends, a Fix whose items begin at the place t goes round
abbrev pub fix_code : ℕ
fix_code = 1024

abbrev pub end_code : ℕ
end_code = 1025

abbrev pub round_code : ℕ → ℕ
round_code t = 2048 + t
