-- Values of a type: their form, and their range (01, 'The words of demand 3').
use Rattle.std.specs.Prelude.{ℕ, ◌≡◌, refl, Bool, List}
use Rattle.std.proofs.Math.Option.{some}
use Rattle.std.proofs.Math.ListN.{get_elem?}
use Rattle.types.specs.Types.{Ty, Ty.int, Ty.nat, Ty.bool, Ty.ref}
use Rattle.types.specs.Values.{Val, Val.int_val, Val.nat_val, Val.bool_val, Val.label}
use Rattle.commands.specs.Typing.{Sort, Takes, Takes.any_equal, Takes.order_int, Takes.order_nat, Takes.arith_int, Takes.arith_nat, Takes.logic_bool}
use Rattle.operators.specs.Ranges.{Of as Range, Of.of_int, Of.of_nat, Of.of_bool, Of.of_ref}
use Rattle.machine.specs.Machine.{Instance}
use Rattle.sound.specs.Needs.{ValueAmong}

module _ (is : List Instance) where
  -- a value of Bool is a truth
  pub bool_value : (v : Val) → ValueAmong is bool v → (b : Bool) × (v ≡ bool_val b)
  bool_value (int_val z) o = absurd o
  bool_value (nat_val n) o = absurd o
  bool_value (bool_val b) o = (b, refl)
  bool_value (label l) o = absurd o

  -- one of a struct is the label of an instance of it
  pub label_value : (k : ℕ) (v : Val) → ValueAmong is (ref k) v → (r : ℕ) × (v ≡ label r) × (j : Instance) × (get_elem? is r ≡ some j) × (j.struct ≡ k)
  label_value k (int_val z) o = absurd o
  label_value k (nat_val n) o = absurd o
  label_value k (bool_val b) o = absurd o
  label_value k (label r) o = (r, refl, o.0, o.1, o.2)

  -- within its range
  pub ranges : (t : Ty) (v : Val) → ValueAmong is t v → Range t v
  ranges int (int_val z) o = of_int o
  ranges int (nat_val n) o = absurd o
  ranges int (bool_val b) o = absurd o
  ranges int (label l) o = absurd o
  ranges nat (int_val z) o = absurd o
  ranges nat (nat_val n) o = of_nat o
  ranges nat (bool_val b) o = absurd o
  ranges nat (label l) o = absurd o
  ranges bool (int_val z) o = absurd o
  ranges bool (nat_val n) o = absurd o
  ranges bool (bool_val b) o = of_bool
  ranges bool (label l) o = absurd o
  ranges (ref k) (int_val z) o = absurd o
  ranges (ref k) (nat_val n) o = absurd o
  ranges (ref k) (bool_val b) o = absurd o
  ranges (ref k) (label l) o = of_ref

  -- an operator's result, which is no label
  pub result_of_type : {s : Sort} {t u : Ty} {v : Val} → Takes s t u → Range u v → ValueAmong is u v
  result_of_type any_equal of_bool = tt
  result_of_type order_int of_bool = tt
  result_of_type order_nat of_bool = tt
  result_of_type arith_int (of_int h) = h
  result_of_type arith_nat (of_nat h) = h
  result_of_type logic_bool of_bool = tt
