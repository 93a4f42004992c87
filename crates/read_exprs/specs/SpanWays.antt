-- How far what is read reaches, and how much is computed of it, form by form (01, numbers 4 to 6).
use Rattle.std.specs.Prelude.{Result as Answered, Ok, Err, ℕ, ◌+◌, ◌<◌, ◌≤◌, ◌^◌, ◌≡◌, refl, List, length}
use native.Mathlib.Omega.{arith}
use Rattle.program.specs.Tree.{Op}
use Rattle.judge.specs.declared.Facts.{Facts}
use Rattle.judge.specs.Facts.{negated, combined, no_args, constructed}
use Rattle.answers.specs.Answers.{after}
use Rattle.read_exprs.specs.Told.{Span, Ahead, Behind, Room, ArgsRead}

module _ (s : List ℕ) where
  -- what lies within a slice leaves room
  pub span_room : {E : Type 0} (lo from : ℕ) (r : Answered (ℕ × Facts) E) → length s < 2 ^ 63 → Span s lo from 0 r → Room r
  span_room lo from (Ok (n, f)) l h = omega arith
  span_room lo from (Err k) l h = tt

  -- behind its byte, an expression lies ahead
  pub behind_ahead : {E : Type 0} (at : ℕ) (r : Answered (ℕ × Facts) E) → Behind s (at + 1) r → Ahead s at r
  behind_ahead at (Ok (n, f)) h = omega arith
  behind_ahead at (Err k) h = tt

  pub span_not : {E : Type 0} (at : ℕ) (r : Answered (ℕ × Facts) E) → Ahead s (at + 1) r → Ahead s at (after negated r)
  unfolding negated
  span_not at (Ok (n, f)) h = omega arith
  span_not at (Err k) h = tt

  -- arguments: none so far; a construct over them
  pub no_args_read : (from : ℕ) → from ≤ length s → ArgsRead s from from 0 no_args
  no_args_read from h = record { within = omega arith; high = omega arith; untyped = refl }

  pub span_make : (E : Type 0) (at k m n x : ℕ) (a : Facts) → m ≡ at + 1 → ArgsRead s m n x a → Behind {E = E} s at (Ok (n, constructed k a))
  unfolding constructed
  span_make E at k m n x a e q = let w = q.within in omega arith

  pub span_op : {E : Type 0} (at m : ℕ) (o : Op) (f : Facts) (r : Answered (ℕ × Facts) E) → Ahead {E = E} s (at + 1) (Ok (m, f)) → Ahead s m r → Ahead s at (after (combined o f) r)
  unfolding combined
  span_op at m o f (Ok (n, g)) p h = omega arith
  span_op at m o f (Err i) p h = tt
