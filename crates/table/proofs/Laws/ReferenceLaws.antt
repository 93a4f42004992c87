-- The references of a table are judged as they are defined (01, 'Table and turns').
use Rattle.std.specs.Prelude.{ℕ, ◌≡◌, refl, ◌↔◌, Bool, true, false, ◌&&◌, get_or}
use Rattle.std.proofs.Common.{arith, ap, eqb-true, eq-eqb}
use Rattle.std.proofs.Math.Option.{Option, none, some}
use mathlib.Core.List.{List, [], ◌∷◌}
use Rattle.types.specs.Types.{Ty, Ty.int, Ty.nat, Ty.bool, Ty.ref}
use Rattle.types.specs.Values.{Val, Val.int_val, Val.nat_val, Val.bool_val, Val.label}
use Rattle.program.specs.Counts.{All}
use Rattle.table.specs.Table.{Record, Each, struct_at, Refers, RefersRecord, References}
use Rattle.table.specs.TableReader.{is_struct, refers, refers_each, references}

failed : false ≡ true → ⊥
failed e = let z : ◌≡◌ {A = ℕ} 0 1 = cc in omega arith

and_iff : (x y : Bool) {P Q : Type 0} → (x ≡ true) ↔ P → (y ≡ true) ↔ Q → (x && y ≡ true) ↔ (P × Q)
and_iff true y h k = (λ e. (h.0 refl, k.0 e), λ p. k.1 p.1)
and_iff false y h k = (λ e. absurd (failed e), λ p. h.1 p.0)

is_struct_exact : (o : Option ℕ) (k : ℕ) → (is_struct o k ≡ true) ↔ (o ≡ some k)
unfolding is_struct
is_struct_exact none k = (λ e. absurd (failed e), λ e. cc)
is_struct_exact (some j) k = (λ e. ap some (eqb-true j k e), λ e. eq-eqb j k (cc))

module _ (pss : List (List Ty)) (rs : List Record) where
  refers_exact : (t : Ty) (v : Val) → (refers pss rs t v ≡ true) ↔ Refers pss rs t v
  unfolding refers
  refers_exact int v = (λ e. tt, λ h. refl)
  refers_exact nat v = (λ e. tt, λ h. refl)
  refers_exact bool v = (λ e. tt, λ h. refl)
  refers_exact (ref k) (int_val z) = (failed, λ h. absurd h)
  refers_exact (ref k) (nat_val n) = (failed, λ h. absurd h)
  refers_exact (ref k) (bool_val b) = (failed, λ h. absurd h)
  refers_exact (ref k) (label l) = is_struct_exact (struct_at pss rs l) k

  each_exact : (ts : List Ty) (vs : List Val) → (refers_each pss rs ts vs ≡ true) ↔ Each (Refers pss rs) ts vs
  unfolding refers_each
  each_exact [] [] = (λ e. tt, λ h. refl)
  each_exact [] (v ∷ vs) = (failed, λ h. absurd h)
  each_exact (t ∷ ts) [] = (failed, λ h. absurd h)
  each_exact (t ∷ ts) (v ∷ vs) = and_iff (refers pss rs t v) (refers_each pss rs ts vs) (refers_exact t v) (each_exact ts vs)

  -- the records gone over pass exactly where each refers as it should
  pub records_exact : (qs : List Record) → (references pss rs qs ≡ true) ↔ All (RefersRecord pss rs) qs
  unfolding references
  records_exact [] = (λ e. tt, λ h. refl)
  records_exact (q ∷ qs) =
      and_iff (refers_each pss rs (get_or pss q.struct []) q.values) (references pss rs qs)
      (each_exact (get_or pss q.struct []) q.values) (records_exact qs)

  -- a table's records pass exactly where its references are right
  pub references_exact : (references pss rs rs ≡ true) ↔ References pss rs
  unfolding References
  references_exact = records_exact rs
