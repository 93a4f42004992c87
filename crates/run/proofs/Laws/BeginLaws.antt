-- A run on a table begins at the published initial state (000, definition 6; 01, 'Table and turns').
use Rattle.std.specs.Prelude.{ℕ, zero, suc, ◌+◌, ◌<◌, ◌≡◌, refl, List, [], ◌∷◌, ◌++◌, map, length, get_or}
use Rattle.std.proofs.Math.Path.{ap}
use Rattle.std.proofs.Common.{◌∙◌, length-append}
use Rattle.std.proofs.Math.Option.{some}
use native.Mathlib.Omega.{arith}
use Rattle.std.proofs.Math.ListN.{get_elem?, length-map}
use Rattle.types.specs.Types.{Ty}
use Rattle.types.specs.Values.{Val, default}
use Rattle.program.specs.Tree.{Program}
use Rattle.commands.specs.Commands.{flatten}
use Rattle.table.specs.Table.{Record}
use Rattle.machine.specs.Published.{structs, Inst}
use Rattle.machine.specs.Represents.{values, RepresentsInst, RepresentsAll, Represents}
use Rattle.run.specs.Runs.{StandsFor}
use Rattle.run.specs.Turns.{labels_from, holds_coms}
use Rattle.run.specs.Holders.{holders}
use Rattle.run.specs.Begin.{nulls, resting, first_instances, begin}
use Rattle.run.specs.Initial.{idle, null_insts, of_record, first_insts, initial, initially}
use Rattle.run.proofs.Laws.TurnLaws.{none_listed, map_at, flags_represent, holders_length}

rests : (k : ℕ) (vs : List Val) → RepresentsInst (resting k vs) (idle k vs)
unfolding values flatten
rests k vs = (refl, refl, refl, refl)

records_represent : (rs : List Record) → RepresentsAll (map (λ r. resting r.struct r.values) rs) (map of_record rs)
records_represent [] = tt
records_represent (r ∷ rs) = (rests r.struct r.values, records_represent rs)

all_represent : (k : ℕ) (tss : List (List Ty)) (rs : List Record)
    → RepresentsAll (nulls k tss ++ map (λ r. resting r.struct r.values) rs) (null_insts k tss ++ map of_record rs)
unfolding nulls null_insts
all_represent k [] rs = records_represent rs
all_represent k (ts ∷ tss) rs = (rests k (map default ts), all_represent (suc k) tss rs)

-- the machine that a run begins with stands for the published initial state
pub begin_represents : (p : Program) (rs : List Record) → Represents (begin p rs) (initial p rs)
unfolding begin initial first_instances first_insts
begin_represents p rs = (refl, all_represent 0 p.params rs, refl)

-- "a run starts counting at label 0" (02, 'Turns that go round')
pub begin_from : (p : Program) (rs : List Record) → (begin p rs).from ≡ 0
unfolding begin
begin_from p rs = refl

-- so it stands for the published beginning of a run
pub begin_stands : (p : Program) (rs : List Record) → StandsFor (begin p rs) (initially p rs)
begin_stands p rs = (begin_from p rs, begin_represents p rs)

null_place : (j : ℕ) (tss : List (List Ty)) (is : List Inst) (k : ℕ) → k < length tss
    → get_elem? (null_insts j tss ++ is) k ≡ some (idle (j + k) (map default (get_or tss k [])))
unfolding null_insts
null_place j [] is k h = absurd (omega arith)
null_place j (ts ∷ tss) is zero h = let e : j ≡ j + 0 = omega arith in ap (λ x. some (idle x (map default ts))) e
null_place j (ts ∷ tss) is (suc k) h =
    let e : suc j + k ≡ j + suc k = omega arith in
    null_place (suc j) tss is k (omega arith) ∙ ap (λ x. some (idle x (map default (get_or tss k [])))) e

past_nulls : (j : ℕ) (tss : List (List Ty)) (is : List Inst) (i : ℕ) → get_elem? (null_insts j tss ++ is) (length tss + i) ≡ get_elem? is i
unfolding null_insts
past_nulls j [] is i = let e : 0 + i ≡ i = omega arith in ap (λ x. get_elem? is x) e
past_nulls j (ts ∷ tss) is i =
    let e : length (ts ∷ tss) + i ≡ suc (length tss + i) = omega arith in
    ap (λ x. get_elem? (null_insts j (ts ∷ tss) ++ is) x) e ∙ past_nulls (suc j) tss is i

nulls_length : (j : ℕ) (tss : List (List Ty)) → length (null_insts j tss) ≡ length tss
unfolding null_insts
nulls_length j [] = refl
nulls_length j (ts ∷ tss) = ap suc (nulls_length (suc j) tss)

module _ (p : Program) (rs : List Record) where
  -- label k of the initial state is the null instance of struct k, with the default of each parameter's type
  pub null_at : (k : ℕ) → k < structs p → get_elem? (first_insts p rs) k ≡ some (idle k (map default (get_or p.params k [])))
  unfolding first_insts
  null_at k h =
      let e : 0 + k ≡ k = omega arith in
      null_place 0 p.params (map of_record rs) k h ∙ ap (λ x. some (idle x (map default (get_or p.params k [])))) e

  -- label S + i is record i
  pub record_at : (i : ℕ) {r : Record} → get_elem? rs i ≡ some r → get_elem? (first_insts p rs) (structs p + i) ≡ some (of_record r)
  unfolding first_insts
  record_at i g = past_nulls 0 p.params (map of_record rs) i ∙ map_at of_record rs i g

  -- and these are all
  pub first_length : length (first_insts p rs) ≡ structs p + length rs
  unfolding first_insts
  first_length = simp (length-append, length-map, nulls_length)

-- nobody holds commands at the beginning
idle_records : (rs : List Record) (l : ℕ) → labels_from l (map holds_coms (map of_record rs)) ≡ []
unfolding labels_from
idle_records [] l = refl
idle_records (r ∷ rs) l = idle_records rs (suc l)

idle_insts : (k : ℕ) (tss : List (List Ty)) (rs : List Record) (l : ℕ) → labels_from l (map holds_coms (null_insts k tss ++ map of_record rs)) ≡ []
unfolding null_insts labels_from
idle_insts k [] rs l = idle_records rs l
idle_insts k (ts ∷ tss) rs l = idle_insts (suc k) tss rs (suc l)

pub begin_idle : (p : Program) (rs : List Record) → holders (begin p rs) ≡ []
unfolding initial first_insts
begin_idle p rs =
    let m = begin p rs in
    none_listed (holders m)
    (holders_length m ∙ ap (λ fs. length (labels_from 0 fs)) (flags_represent m.instances (first_insts p rs) (begin_represents p rs).1)
    ∙ ap length (idle_insts 0 p.params rs 0))
