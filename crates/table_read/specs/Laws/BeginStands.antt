-- A table laid in memory stands for the machine that a run begins with (01, 'Table and turns').
use Prim.Native.Nat.{ℕ, zero, suc, ◌+◌, ◌*◌, ◌<◌, ◌≤◌}
use native.Mathlib.Omega.{arith}
use Rattle.std.proofs.Common.{add-zero, ◌∙◌}
use Rattle.std.specs.Prelude.{◌≡◌, get_or}
use Rattle.std.proofs.Math.Path.{refl, ap, sym}
use Rattle.std.proofs.Math.Option.{some}
use mathlib.Core.List.{List, [], ◌∷◌, ◌++◌, map, append-nil, append_assoc, map-append}
use Rattle.std.proofs.Math.ListN.{length, get_elem?, length-append}
use Rattle.types.specs.Limits.{max_structs, max_params, max_instances}
use Rattle.types.specs.Types.{Ty, Ty.int, Ty.nat, Ty.bool, Ty.ref, IsType}
use Rattle.types.specs.TypeBytes.{ValueOf}
use Rattle.types.specs.Values.{Val, default, word}
use Rattle.program.specs.Tree.{Program}
use Rattle.program.specs.Counts.{All, Counts}
use Rattle.commands.specs.Context.{params_of}
use Rattle.table.specs.Table.{Record, Each, Held, HeldRecord, HeldTable}
use Rattle.table.proofs.Laws.SizeLaws.{each_length, few_params}
use Rattle.judge.specs.ProgramFacts.{types_table}
use Rattle.judge.proofs.Laws.ProgramTableLaws.{types_at}
use Rattle.machine.specs.Published.{Sched, of_items, structs}
use Rattle.machine.specs.Machine.{Instance, Machine, machine, with_instances}
use Rattle.run.specs.Begin.{resting, nulls, first_instances, begin}
use Rattle.sound.proofs.Laws.ElemLaws.{none_some, some_is, at_below, elem_all}
use Rattle.sound.proofs.Laws.EachLaws.{each_at}
use Rattle.sound.proofs.Laws.AcceptedLaws.{params_counted}
use Rattle.layout.specs.Layout.{head_size, row_size, cell}
use Rattle.layout.specs.State.{State, state_of, set_count, set_place, fresh}
use Rattle.memory.specs.Stands.{Shows, Stands, bits}
use Rattle.memory.specs.Frame.{AllSlim}
use Rattle.memory.proofs.Laws.MadeLaws.{with_new, new_stands, new_slim}
use Rattle.table_read.specs.Laid.{cells_of, heads_laid, rows_laid, null_records, all_records}
use Rattle.table_read.specs.Laws.LaidLaws.{cells_length, nulls_length}

-- an instance at rest with a record's struct and values
abbrev of_record : Record → Instance
of_record q = resting q.struct q.values

-- memory as it was, with records as the instances behind those that it holds, n in all
abbrev laid_state : List ℕ → State → List Record → ℕ → State
laid_state ts z qs n =
    state_of (set_count z.machine n) (heads_laid z.heads z.machine.count qs) (rows_laid ts z.cells z.machine.count qs)

-- memory of n instances at the place a of a schedule, with nothing begun
abbrev pub beginning : ℕ → ℕ → List ℕ → List ℕ → State
beginning n a h c = state_of (set_place (fresh n) a) h c

-- One record after the other -----------------------------------------------------------

-- the cells of a record show its values
pub record Shown (ts : List ℕ) (q : Record) : Type 0 where
  pub few : length q.values ≤ max_params
  pub shows : (v : ℕ) (x : Val) → get_elem? q.values v ≡ some x → Shows (get_or (cells_of ts (max_params * q.struct) q.values) v 0) x

module _ (ts list : List ℕ) (P : ℕ → Sched → Type 0) where
  records_stand : (qs : List Record) (m : Machine) (z : State) → Stands list P m z → AllSlim m.instances → All (Shown ts) qs
      → (n : ℕ) → z.machine.count + length qs ≡ n → n ≤ max_instances
      → Stands list P (with_instances m (m.instances ++ map of_record qs)) (laid_state ts z qs n)
  unfolding heads_laid rows_laid
  records_stand [] m z st slim o n e b = rw (append-nil, ← e, add-zero) st
  records_stand (q ∷ qs) m z st slim o n e b =
      let ws = cells_of ts (max_params * q.struct) q.values in
      let s : length q.values ≡ length ws = sym (cells_length ts (max_params * q.struct) q.values) in
      let f : length q.values ≤ max_params = o.0.few in
      let here = new_stands list P m z st slim (omega arith) q.struct ws q.values s (omega arith) o.0.shows in
      let rest =
      records_stand qs (with_instances m (m.instances ++ of_record q ∷ [])) (with_new z q.struct ws) here
      (new_slim m.instances slim q.struct q.values f) o.1 n (omega arith) b
      in
      rw append_assoc at rest

-- The records of a program's table -------------------------------------------------------

-- the cell of the value at a place
cells_at : (ts : List ℕ) (i : ℕ) (vs : List Val) (v : ℕ) (x : Val) → get_elem? vs v ≡ some x → get_or (cells_of ts i vs) v 0 ≡ cell (get_or ts (i + v) 0) (word x)
unfolding cells_of
cells_at ts i [] v x e = none_some e
cells_at ts i (y ∷ vs) zero x e = let z : i + 0 ≡ i = omega arith in rw (z, some_is e)
cells_at ts i (y ∷ vs) (suc v) x e = let z : i + suc v ≡ suc i + v = omega arith in rw z (cells_at ts (suc i) vs v x e)

-- a default is of its type
default_held : (S : ℕ) → S ≤ max_structs → (t : Ty) → IsType S t → ValueOf t (default t)
unfolding default
default_held S b int h = omega arith
default_held S b nat h = omega arith
default_held S b bool h = tt
default_held S b (ref k) h = omega arith

defaults_held : (S : ℕ) → S ≤ max_structs → (ps : List Ty) → All (IsType S) ps → Each Held ps (map default ps)
defaults_held S b [] h = tt
defaults_held S b (t ∷ ps) h = (default_held S b t h.0, defaults_held S b ps h.1)

-- a type of a program is one of 16 structs
type_within : (S : ℕ) → S ≤ max_structs → (ps : List Ty) (v : ℕ) → All (IsType S) ps → IsType max_structs (get_or ps v int)
type_within S b [] v h = tt
type_within S b (int ∷ ps) zero h = tt
type_within S b (nat ∷ ps) zero h = tt
type_within S b (bool ∷ ps) zero h = tt
type_within S b (ref k ∷ ps) zero h = let w = h.0 in omega arith
type_within S b (t ∷ ps) (suc v) h = type_within S b ps v h.1

module _ (p : Program) (counts : Counts p) where
  within : structs p ≤ max_structs
  unfolding Counts
  within = counts.0.1

  pub few_all : All (λ ps. length ps ≤ max_params) p.params
  few_all = elem_all (λ ps. length ps ≤ max_params) p.params λ k ps e. rw (at_getD p.params k ps e) at (params_counted p counts k).0
    where
      at_getD : (l : List (List Ty)) (k : ℕ) (ps : List Ty) → get_elem? l k ≡ some ps → get_or l k [] ≡ ps
      at_getD [] k ps e = none_some e
      at_getD (x ∷ l) zero ps e = some_is e
      at_getD (x ∷ l) (suc k) ps e = at_getD l k ps e

  -- a record of values of its struct's types
  shown : (q : Record) → Each Held (params_of p q.struct) q.values → Shown (types_table p.params) q
  shown q o =
      let n : length q.values ≡ length (params_of p q.struct) = each_length Held (params_of p q.struct) q.values o in
      let f : length (params_of p q.struct) ≤ max_params = few_params max_params p.params few_all q.struct in
      record { few = omega arith; shows = λ v x e. show v x e (at_below q.values v x e) }
    where
      show : (v : ℕ) (x : Val) → get_elem? q.values v ≡ some x → v < length q.values
          → Shows (get_or (cells_of (types_table p.params) (max_params * q.struct) q.values) v 0) x
      show v x e l =
          let n : length q.values ≡ length (params_of p q.struct) = each_length Held (params_of p q.struct) q.values o in
          let (y, w, h) = each_at Held int (params_of p q.struct) q.values v (omega arith) o in
          let same : y ≡ x = some_is (sym w ∙ e) in
          record {
            by = get_or (params_of p q.struct) v int;
            typed = type_within (structs p) within (params_of p q.struct) v (params_counted p counts q.struct).1;
            held = rw same at h;
            is =
                cells_at (types_table p.params) (max_params * q.struct) q.values v x e
                ∙ ap (λ b. cell b (word x)) (types_at p.params few_all q.struct v (omega arith));
          }

  -- the null instances and the records of a table
  nulls_shown : (k : ℕ) (pss : List (List Ty)) → ((j : ℕ) → j < length pss → params_of p (k + j) ≡ get_or pss j [])
      → All (Shown (types_table p.params)) (null_records k pss)
  unfolding null_records
  nulls_shown k [] f = tt
  nulls_shown k (ps ∷ pss) f =
      let z : k + 0 ≡ k = omega arith in
      let e : params_of p k ≡ ps = rw z at (f 0 (omega arith)) in (
        shown (record { struct = k; values = map default ps })
            (rw e (defaults_held (structs p) within ps (rw e at (params_counted p counts k).1))),
        nulls_shown (suc k) pss λ j l. let w : k + suc j ≡ suc k + j = omega arith in rw w at (f (suc j) (omega arith)),
      )

  records_shown : (rs : List Record) → All (HeldRecord p.params) rs → All (Shown (types_table p.params)) rs
  records_shown [] o = tt
  records_shown (q ∷ rs) o = (shown q o.0.1, records_shown rs o.1)

  all_shown : (rs : List Record) → All (HeldRecord p.params) rs → All (Shown (types_table p.params)) (all_records p.params rs)
  all_shown rs o =
      go (null_records 0 p.params) (nulls_shown 0 p.params λ j l. let z : 0 + j ≡ j = omega arith in rw z)
    where
      go : (qs : List Record) → All (Shown (types_table p.params)) qs → All (Shown (types_table p.params)) (qs ++ rs)
      go [] a = records_shown rs o
      go (q ∷ qs) a = (a.0, go qs a.1)

  -- The beginning of a run ---------------------------------------------------------------

  nulls_are : (k : ℕ) (pss : List (List Ty)) → map of_record (null_records k pss) ≡ nulls k pss
  unfolding null_records nulls
  nulls_are k [] = refl
  nulls_are k (ps ∷ pss) = ap (λ r. resting k (map default ps) ∷ r) (nulls_are (suc k) pss)

  instances_are : (rs : List Record) → map of_record (all_records p.params rs) ≡ first_instances p rs
  unfolding first_instances
  instances_are rs = map-append of_record (null_records 0 p.params) rs ∙ ap (λ l. l ++ map of_record rs) (nulls_are 0 p.params)

  module _ (h c : List ℕ) (long : length h ≡ head_size * max_instances) (wide : length c ≡ row_size * max_instances) (list : List ℕ)
      (P : ℕ → Sched → Type 0) (a : ℕ) (scheduled : P a (of_items p.schedule)) where
    nothing_stands : Stands list P (machine (of_items p.schedule) [] [] 0) (beginning 0 a h c)
    unfolding bits
    nothing_stands = record {
      heads_long = long;
      cells_long = wide;
      counted = refl;
      few = omega arith;
      each = λ l i e. none_some e;
      opened = refl;
      entries = refl;
      scheduled = scheduled;
      clear = refl;
    }

    -- a held table, laid in memory of any contents, stands for the machine that a run begins with
    pub laid_stands : (rs : List Record) → HeldTable p.params rs
        → Stands list P (begin p rs)
        (beginning (structs p + length rs) a (heads_laid h 0 (all_records p.params rs))
        (rows_laid (types_table p.params) c 0 (all_records p.params rs)))
    unfolding begin HeldTable
    laid_stands rs o =
        let n : length (null_records 0 p.params) ≡ structs p = nulls_length 0 p.params in
        let m : length (all_records p.params rs) ≡ length (null_records 0 p.params) + length rs = length-append (null_records 0 p.params) rs in
        rw (instances_are rs) at
        (records_stand (types_table p.params) list P (all_records p.params rs) (machine (of_items p.schedule) [] [] 0) (beginning 0 a h c)
        nothing_stands (λ l i e. none_some e) (all_shown rs o.1) (structs p + length rs) (omega arith) (omega (arith, o.0)))
