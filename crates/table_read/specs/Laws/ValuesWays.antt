-- Each way through the reader of a record's values (01, 'Table and turns').
use Rattle.std.specs.Prelude.{ℕ, suc, ◌+◌, ◌-◌, ◌<◌, ◌≤◌, ◌≡◌, refl, List, ◌∷◌, get_or, Result as Answer, Ok, Err}
use native.Mathlib.Omega.{arith}
use Rattle.std.proofs.Common.{add-zero, ap, ◌∙◌}
use Rattle.std.proofs.Math.Nat.{sub-zero}
use Rattle.types.specs.Types.{type_of}
use Rattle.types.specs.Values.{Val}
use Rattle.program.specs.Reader.{Result, Result.ok, Result.bad, then, pair, made}
use Rattle.table.specs.TableReader.{read_value, read_values}
use Rattle.table_read.specs.Params.{types_from}
use Rattle.table_read.specs.Laid.{value_laid, cells_of, values_laid}
use Rattle.table_read.specs.Told.{Laid, ValueLaid, ValuesLaid}
use Rattle.table_read.specs.Laws.ToldLaws.{laid_is, laid_stops}

module _ (s ts : List ℕ) (i n at : ℕ) (c : List ℕ) (a : ℕ) where
  -- the first was read, and the others behind it
  values_more : (m : ℕ) (d : List ℕ) → ValueLaid s (get_or ts i 0) at c a (Ok m) d
      → (r : Answer ℕ ℕ) (x : List ℕ) → ValuesLaid s ts (suc i) n m d (suc a) r x → ValuesLaid s ts i (suc n) at c a r x
  unfolding types_from read_values cells_of pair made then
  values_more m d h r x k =
      let (v, e, w) = laid_is (value_laid c a (get_or ts i 0)) (read_value s (type_of (get_or ts i 0)) at) m d h in
      rw e (go v (read_values s (types_from ts (suc i) n) m) w k)
    where
      go : (v : Val) (q : Result (List Val)) → d ≡ value_laid c a (get_or ts i 0) v → Laid (values_laid ts (suc i) d (suc a)) q r x
          → Laid (values_laid ts i c a) (made (λ p. p.0 ∷ p.1) (pair (ok v m) λ v k. q)) r x
      go v (ok vs j) w h = (h.0, h.1 ∙ rw w)
      go v (bad p j) w h = h

  -- the first was refused
  values_stop : (e : ℕ) (d : List ℕ) → ValueLaid s (get_or ts i 0) at c a (Err e) d
      → (x : List ℕ) → ValuesLaid s ts i (suc n) at c a (Err e) x
  unfolding types_from read_values pair made then
  values_stop e d h x =
      let (p, j, q, w) = laid_stops (value_laid c a (get_or ts i 0)) (read_value s (type_of (get_or ts i 0)) at) e d h in
      rw q (ap (λ k. Err k) w)

-- a loop over the values: what the rest comes to after x of them, the whole does
module _ (s ts : List ℕ) (i n at : ℕ) (c : List ℕ) (a : ℕ) where
  abbrev pub ValuesGo : ℕ → ℕ → List ℕ → Type 0
  ValuesGo x k d = (r : Answer ℕ ℕ) (y : List ℕ) → ValuesLaid s ts (i + x) (n - x) k d (a + x) r y → ValuesLaid s ts i n at c a r y

  pub values_begin : ValuesGo 0 at c
  values_begin r y h = rw (add-zero i, sub-zero n, add-zero a) at h

  pub values_turn : (x k : ℕ) (d : List ℕ) → x < n → ValuesGo x k d → (m : ℕ) (f : List ℕ)
      → ValueLaid s (get_or ts (i + x) 0) k d (a + x) (Ok m) f → ValuesGo (x + 1) m f
  values_turn x k d l g m f h r y w =
      let e : n - x ≡ suc (n - (x + 1)) = omega arith in
      let p : i + (x + 1) ≡ suc (i + x) = omega arith in
      let q : a + (x + 1) ≡ suc (a + x) = omega arith in
      g r y (rw e (values_more s ts (i + x) (n - (x + 1)) k d (a + x) m f h r y (rw (p, q) at w)))

  pub values_refused : (x k : ℕ) (d : List ℕ) → x < n → ValuesGo x k d → (e : ℕ) (f : List ℕ)
      → ValueLaid s (get_or ts (i + x) 0) k d (a + x) (Err e) f → (y : List ℕ) → ValuesLaid s ts i n at c a (Err e) y
  values_refused x k d l g e f h y =
      let p : n - x ≡ suc (n - (x + 1)) = omega arith in
      g (Err e) y (rw p (values_stop s ts (i + x) (n - (x + 1)) k d (a + x) e f h y))

  pub values_end : (x k : ℕ) (d : List ℕ) → n ≤ x → ValuesGo x k d → ValuesLaid s ts i n at c a (Ok k) d
  unfolding types_from read_values cells_of
  values_end x k d l g = let e : n - x ≡ 0 = omega arith in g (Ok k) d (rw e (refl, refl))
