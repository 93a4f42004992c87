-- Every command of the machine goes one of the ways of Performed.
use Rattle.std.specs.Prelude.{ℕ, ◌+◌, ◌≤◌, Bool, length}
use Rattle.std.proofs.Math.Path.{◌≡◌, refl}
use Rattle.std.proofs.Common.{sym, subst, arith, ltb-true, ltb-false, leb-true}
use Rattle.std.proofs.Math.Bool.{true, false}
use Rattle.std.proofs.Math.Option.{Option, none, some}
use mathlib.Core.List.{List, [], ◌∷◌}
use Rattle.std.proofs.Math.ListN.{get_elem?}
use Rattle.std.proofs.Math.Dec.{ltb, leb}
use Rattle.types.specs.Limits.{max_instances, first_local}
use Rattle.types.specs.Types.{Ty}
use Rattle.types.specs.Values.{Val, Val.int_val, Val.nat_val, Val.bool_val, Val.label}
use Rattle.program.specs.Tree.{Op, Program}
use Rattle.commands.specs.Noted.{Note, Note.n_push, Note.n_this, Note.n_not, Note.n_rd, Note.n_wr, Note.n_get, Note.n_set, Note.n_cons, Note.n_op, Note.n_if}
use Rattle.commands.specs.Noted.{now_written}
use Rattle.operators.specs.Apply.{Answer, Answer.value, Answer.outside, Answer.unfit, apply}
use Rattle.machine.specs.Published.{lookup, structs, arity}
use Rattle.machine.specs.Machine.{Tagged, tagged, Source, Source.variable, Source.local, Source.result, Instance, Machine, Out, Out.stuck}
use Rattle.machine.specs.Machine.{with_written, acting, read_from, read_at, read, write_to, write_parameter, write_at, write, negate, branch}
use Rattle.machine.specs.Machine.{operated, operate, construct, perform, command_of, command_at, command}
use Rattle.machine.specs.Performed.{Reads, Reads.parameter, Reads.of_local, Writes, Writes.to_parameter, Writes.to_local, Performed, Performed.pushed}
use Rattle.machine.specs.Performed.{Performed.pushed_this, Performed.negated, Performed.read_one, Performed.skipped, Performed.wrote}
use Rattle.machine.specs.Performed.{Performed.calculated, Performed.exceeding, Performed.constructed, Performed.filled, Performed.branched}
use Rattle.machine.specs.Performed.{Performed.no_way}

module _ (p : Program) (m : Machine) (l : ℕ) (i : Instance) (r : List Note) where
  negated_top : (t : Ty) (v : Val) (χ : List Tagged) → i.stack ≡ tagged t v ∷ χ → Performed p m l i r n_not (negate p m l i r (tagged t v ∷ χ))
  unfolding negate
  negated_top t (int_val z) χ e = no_way
  negated_top t (nat_val n) χ e = no_way
  negated_top t (bool_val b) χ e = negated e
  negated_top t (label q) χ e = no_way

  negates : (χ : List Tagged) → i.stack ≡ χ → Performed p m l i r n_not (negate p m l i r χ)
  unfolding negate
  negates [] e = no_way
  negates (x ∷ χ) e = negated_top x.by x.is χ e

  branched_top : (n : ℕ) (t : Ty) (v : Val) (χ : List Tagged) → i.stack ≡ tagged t v ∷ χ → Performed p m l i r (n_if n) (branch p m l i n r (tagged t v ∷ χ))
  unfolding branch
  branched_top n t (int_val z) χ e = no_way
  branched_top n t (nat_val k) χ e = no_way
  branched_top n t (bool_val b) χ e = branched e
  branched_top n t (label q) χ e = no_way

  branches : (n : ℕ) (χ : List Tagged) → i.stack ≡ χ → Performed p m l i r (n_if n) (branch p m l i n r χ)
  unfolding branch
  branches n [] e = no_way
  branches n (x ∷ χ) e = branched_top n x.by x.is χ e

  module _ (n : Note) (v : ℕ) (s : ℕ → Source) (h : Reads n v s) where
    read_top : (u : Ty) (x : Val) (χ : List Tagged) → i.stack ≡ tagged u x ∷ χ → Performed p m l i r n (read p m l i r (tagged u x ∷ χ) v s)
    unfolding read read_at read_from
    read_top u (int_val z) χ e = no_way
    read_top u (nat_val k) χ e = no_way
    read_top u (bool_val b) χ e = no_way
    read_top u (label q) χ e = at (get_elem? m.instances q) refl
      where
        from : (j : Instance) → get_elem? m.instances q ≡ some j → (o : Option Val) → lookup j.env v ≡ o
            → Performed p m l i r n (read_from p m l i r χ (s j.struct) o)
        from j f none g = no_way
        from j f (some y) g = read_one h e f g

        at : (o : Option Instance) → get_elem? m.instances q ≡ o → Performed p m l i r n (read_at p m l i r χ v s o)
        at none f = no_way
        at (some j) f = from j f (lookup j.env v) refl

    reads : (χ : List Tagged) → i.stack ≡ χ → Performed p m l i r n (read p m l i r χ v s)
    unfolding read
    reads [] e = no_way
    reads (x ∷ χ) e = read_top x.by x.is χ e

  module _ (n : Note) (v : ℕ) (h : Writes n v) where
    writes_at : (u : Ty) (q : ℕ) (y : Tagged) (χ : List Tagged) (j : Instance) → i.stack ≡ tagged u (label q) ∷ y ∷ χ → get_elem? m.instances q ≡ some j
        → Performed p m l i r n (write_at p m l i r χ v y.is q (some j))
    unfolding write_at write_parameter write_to
    writes_at u q y χ j e f = go (ltb v (arity p j.struct)) refl (ltb q (structs p)) refl
      where
        par : structs p ≤ q → (o : Option Val) → lookup j.env v ≡ o → Performed p m l i r n (write_parameter p m l i r χ v y.is q j o)
        par a none g = no_way
        par a (some x) g = wrote h e f (λ b c. omega arith) (λ b c. let z : ◌≡◌ {A = ℕ} 0 1 = cc in omega arith)

        go : (t : Bool) → ltb v (arity p j.struct) ≡ t → (o : Bool) → ltb q (structs p) ≡ o
            → Performed p m l i r n (write_at p m l i r χ v y.is q (some j))
        go true a true b = rw (a, b, write_at) (skipped h e f (ltb-true q (structs p) b) (ltb-true v (arity p j.struct) a))
        go true a false b = rw (a, b, write_at) (par (ltb-false q (structs p) b) (lookup j.env v) refl)
        go false a o b =
            let d = ltb-false v (arity p j.struct) a in rw (a, write_at) (wrote h e f (λ b c. omega arith) (λ b c. omega arith))

    write_top : (u : Ty) (x : Val) (y : Tagged) (χ : List Tagged) → i.stack ≡ tagged u x ∷ y ∷ χ
        → Performed p m l i r n (write p m l i r (tagged u x ∷ y ∷ χ) v)
    unfolding write write_at
    write_top u (int_val z) y χ e = no_way
    write_top u (nat_val k) y χ e = no_way
    write_top u (bool_val b) y χ e = no_way
    write_top u (label q) y χ e = at (get_elem? m.instances q) refl
      where
        at : (o : Option Instance) → get_elem? m.instances q ≡ o → Performed p m l i r n (write_at p m l i r χ v y.is q o)
        at none f = no_way
        at (some j) f = writes_at u q y χ j e f

    writes : (χ : List Tagged) → i.stack ≡ χ → Performed p m l i r n (write p m l i r χ v)
    unfolding write
    writes [] e = no_way
    writes (x ∷ []) e = no_way
    writes (x ∷ y ∷ χ) e = write_top x.by x.is y χ e

  operates : (o : Op) (χ : List Tagged) → i.stack ≡ χ → Performed p m l i r (n_op o) (operate p m l i o r χ)
  unfolding operate operated
  operates o [] e = no_way
  operates o (y ∷ []) e = no_way
  operates o (y ∷ x ∷ χ) e = go (apply o x.is y.is) refl
    where
      go : (a : Answer) → apply o x.is y.is ≡ a → Performed p m l i r (n_op o) (operated p m l i r χ (result o x.by) a)
      go (value z) f = calculated {x = x} e f
      go outside f = exceeding {x = x} e f
      go unfit f = no_way

  constructs : (k : ℕ) → Performed p m l i r (n_cons k) (construct p m l i k r i.stack)
  unfolding construct
  constructs k = go (leb (arity p k) (length i.stack)) refl (ltb (length m.instances) max_instances) refl
    where
      go : (t : Bool) → leb (arity p k) (length i.stack) ≡ t → (u : Bool) → ltb (length m.instances) max_instances ≡ u
          → Performed p m l i r (n_cons k) (construct p m l i k r i.stack)
      go true a true b = rw (b, a, construct) (constructed (leb-true (arity p k) (length i.stack) a) (ltb-true (length m.instances) max_instances b))
      go false a true b = rw (b, a, construct) no_way
      go t a false b = rw (b, construct) (filled (ltb-false (length m.instances) max_instances b))

  -- a command goes one of the ways
  pub performed : (n : Note) → Performed p m l i r n (perform p m l i n r)
  unfolding perform
  performed (n_push t v) = pushed
  performed n_this = pushed_this
  performed n_not = negates i.stack refl
  performed (n_rd k x) = reads (n_rd k x) x (λ j. variable j x) parameter i.stack refl
  performed (n_wr k x) = writes (n_wr k x) x to_parameter i.stack refl
  performed (n_get t x) = reads (n_get t x) (first_local + x) (λ j. local t) of_local i.stack refl
  performed (n_set d t x) = writes (n_set d t x) (first_local + x) to_local i.stack refl
  performed (n_cons k) = constructs k
  performed (n_op o) = operates o i.stack refl
  performed (n_if n) = branches n i.stack refl

-- what holds of performing a command holds of the command of the instance l that has it next
pub performs : (P : Out → Type 0) (p : Program) (m : Machine) (l : ℕ) {i : Instance} {n : Note} {r : List Note}
    → get_elem? m.instances l ≡ some i → i.code ≡ n ∷ r
    → P (perform p (acting l m) l (with_written i (now_written n i.written)) n r) → P (command p l m)
unfolding command command_at command_of
performs P p m l {i} g e h =
    subst (λ o. P (command_at p (acting l m) l o)) (sym g) (subst (λ c. P (command_of p (acting l m) l i c)) (sym e) h)

-- what holds of `stuck` and of every way through the next command of instance l holds of its command
pub by_ways : (P : Out → Type 0) (p : Program) (m : Machine) (l : ℕ) → P stuck
    → ((i : Instance) (n : Note) (r : List Note) (o : Out) → get_elem? m.instances l ≡ some i → i.code ≡ n ∷ r
    → Performed p (acting l m) l (with_written i (now_written n i.written)) r n o → P o)
    → P (command p l m)
unfolding command command_at command_of
by_ways P p m l s h = at (get_elem? m.instances l) refl
  where
    code : (i : Instance) → get_elem? m.instances l ≡ some i → (c : List Note) → i.code ≡ c → P (command_of p (acting l m) l i c)
    code i g [] e = s
    code i g (n ∷ r) e =
        let j = with_written i (now_written n i.written) in h i n r (perform p (acting l m) l j n r) g e (performed p (acting l m) l j r n)

    at : (o : Option Instance) → get_elem? m.instances l ≡ o → P (command_at p (acting l m) l o)
    at none g = s
    at (some i) g = code i g i.code refl
