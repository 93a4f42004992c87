-- The ways through a search among the records of n instances that has come to the label l (02, 'Turns that go round'): a record that holds
-- commands counts one.
use Rattle.std.specs.Prelude.{ℕ, suc, ◌+◌, ◌-◌, ◌<◌, ◌≤◌, ◌≡◌, Bool, List, get_or}
use Rattle.std.proofs.Math.Path.{refl}
use Rattle.std.proofs.Math.Bool.{true, false}
use native.Mathlib.Omega.{arith}
use Rattle.std.proofs.Common.{add-one}
use mir.Val.{bool_byte}
use borrow.Author.Tests.{eq-eqb, ne_eqb, lt-ltb, le-ltb}
use Rattle.holders.specs.declared.Record.{Record}
use Rattle.holders.specs.Records.{idle, wrapped, search}

module _ (n l : ℕ) where
  -- a label of an instance is the next to be looked at, and behind the highest label 0 is
  pub wrapped_here : l < n → wrapped n l ≡ l
  unfolding wrapped
  wrapped_here h = rw (wrapped, lt-ltb l n h)

  pub wrapped_past : n ≤ l → wrapped n l ≡ 0
  unfolding wrapped
  wrapped_past h = rw (wrapped, le-ltb l n h)

module _ (ys : List Record) (n m l r : ℕ) where
  abbrev now : Record
  now = get_or ys (wrapped n l) idle

  pub search_here : r < bool_byte now.holds → search ys n (suc m) l r ≡ wrapped n l
  unfolding search
  search_here k = go now.holds refl k
    where
      go : (t : Bool) → now.holds ≡ t → r < bool_byte t → search ys n (suc m) l r ≡ wrapped n l
      go true t k = rw (search, t, eq-eqb r 0 (omega arith))
      go false t k = absurd (omega arith)

  pub search_past : bool_byte now.holds ≤ r → search ys n (suc m) l r ≡ search ys n m (wrapped n l + 1) (r - bool_byte now.holds)
  unfolding search
  search_past k = rw (add-one (wrapped n l)) (go now.holds refl k)
    where
      go : (t : Bool) → now.holds ≡ t → bool_byte t ≤ r → search ys n (suc m) l r ≡ search ys n m (suc (wrapped n l)) (r - bool_byte t)
      go true t k = rw (search, t, ne_eqb r 0 (λ e. omega arith))
      go false t k = let z : r - 0 ≡ r = omega arith in rw (search, t, z)
