-- Whether a turn is due, as the code asks it (01, 'Table and turns'): the way on, and the way past.
use Rattle.std.specs.Prelude.{◌<◌, ◌≡◌, Bool, true, false, not}
use Rattle.std.proofs.Common.{arith, sym, true≢false, ltb-true, ltb-false}
use Rattle.std.proofs.lemmas.Bool.{false≢true}
use Rattle.layout.specs.declared.Numbers.{Numbers}
use Rattle.layout.specs.State.{due_in}

module _ (m : Numbers) (b : Bool) (is : b ≡ due_in m) where
  pub none_due : not b ≡ true → m.holding ≡ 0
  none_due = go b is
    where
      go : (t : Bool) → t ≡ due_in m → not t ≡ true → m.holding ≡ 0
      go true e h = absurd (false≢true h)
      go false e h = omega (arith, ltb-false 0 m.holding (sym e))

  pub some_due : not b ≡ false → 0 < m.holding
  some_due = go b is
    where
      go : (t : Bool) → t ≡ due_in m → not t ≡ false → 0 < m.holding
      go true e h = ltb-true 0 m.holding (sym e)
      go false e h = absurd (true≢false h)
