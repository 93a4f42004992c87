-- How far what is read reaches, and how much is computed of it, statement by statement (01, numbers 4 to 6).
use Rattle.std.specs.Prelude.{Result as Answered, Ok, Err, ℕ, ◌+◌, ◌<◌, ◌^◌, ◌≡◌, List, length}
use native.Mathlib.Omega.{arith}
use Rattle.judge.specs.declared.Judged.{Judged}
use Rattle.judge.specs.declared.Facts.{Facts}
use Rattle.judge.specs.declared.Scope.{Scope}
use Rattle.judge.specs.Facts.{branched, declared, updated}
use Rattle.read_exprs.specs.Told.{PathSpan, Ahead, Behind}
use Rattle.answers.specs.Answers.{after}
use Rattle.judge.specs.declared.Done.{Done}
use Rattle.read_stmts.specs.Done.{labelled, DoneAhead, DoneBody, DoneBehind, DoneSpan, RoomDone}

module _ (s : List ℕ) where
  -- what lies within a slice leaves room
  pub done_room : {E : Type 0} (lo from : ℕ) (r : Answered (ℕ × Done) E) → length s < 2 ^ 63 → DoneSpan s lo from 0 r → RoomDone r
  done_room lo from (Ok (n, d)) l h = omega arith
  done_room lo from (Err k) l h = tt

  -- behind its byte, a statement lies ahead; behind one byte more, it lies behind
  pub behind_ahead : {E : Type 0} (at : ℕ) (r : Answered (ℕ × Done) E) → DoneBehind s (at + 1) r → DoneAhead s at r
  behind_ahead at (Ok (n, d)) h = omega arith
  behind_ahead at (Err k) h = tt

  pub behind_behind : {E : Type 0} (at m : ℕ) (r : Answered (ℕ × Done) E) → m ≡ at + 1 → DoneBehind s m r → DoneBehind s at r
  behind_behind at m (Ok (n, d)) e h = omega arith
  behind_behind at m (Err k) e h = tt

  pub span_declared : {E : Type 0} (at m : ℕ) (c : Scope) (t x : ℕ) (r : Answered (ℕ × Facts) E) → m ≡ at + 1 → Ahead s m r → DoneBehind s at (after (declared c t x) r)
  unfolding declared
  span_declared at m c t x (Ok (n, f)) e h = omega arith
  span_declared at m c t x (Err k) e h = tt

  pub span_updated : {E : Type 0} (at m n : ℕ) (c : Scope) (j : Judged) (r : Answered (ℕ × Facts) E) → PathSpan {E = E} s 0 4 (at + 1) (Ok (m, n, j)) → Ahead s m r
      → DoneBehind s at (after (updated c n j) r)
  unfolding updated
  span_updated at m n c j (Ok (k, f)) e h = omega arith
  span_updated at m n c j (Err k) e h = tt

  pub span_labelled : {E : Type 0} (at : ℕ) (c : Scope) (r : Answered (ℕ × Facts) E) → Behind s at r → DoneBehind s at (after (labelled c) r)
  span_labelled at c (Ok (n, f)) h = omega arith
  span_labelled at c (Err k) h = tt

  pub span_branched : {E : Type 0} (at m : ℕ) (c : Scope) (f : Facts) (r : Answered (ℕ × Done) E) → Ahead {E = E} s at (Ok (m, f)) → DoneBody s m r → DoneBehind s at (after (branched c f) r)
  unfolding branched
  span_branched at m c f (Ok (n, d)) p h = omega arith
  span_branched at m c f (Err k) p h = tt
