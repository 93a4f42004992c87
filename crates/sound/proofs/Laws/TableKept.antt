-- What a run writes is a right table in blocks that fit (01, 'Table and turns', 'Numbers from the state'): every machine of a run
-- stands at a table that a run may begin with, and its image is accepted and read back as that table.
use Rattle.std.specs.Prelude.{ℕ, ◌+◌, ◌-◌, ◌*◌, ◌<◌, ◌≤◌, ◌≡◌, Bool, List, map, length, drop}
use native.Mathlib.Omega.{arith}
use Rattle.std.proofs.Math.Path.{refl, ap, sym}
use Rattle.std.proofs.Common.{◌∙◌, subst, length-append}
use Rattle.std.proofs.Math.Bool.{true, false}
use Rattle.std.proofs.Math.Option.{Option, none, some}
use Rattle.std.proofs.Math.ListN.{get_elem?, length-map, length-drop}
use Rattle.std.proofs.Math.Dec.{ltb}
use borrow.Author.Tests.{ltb-true, ltb-false}
use Rattle.types.specs.Limits.{table_blocks}
use Rattle.types.specs.Types.{Ty, Ty.int, Ty.nat, Ty.bool, Ty.ref}
use Rattle.types.specs.Values.{Val, Val.int_val, Val.nat_val, Val.bool_val, Val.label, default}
use Rattle.types.proofs.Laws.ValueLaws.{value_as}
use Rattle.block.specs.Block.{block_size, payload_size}
use Rattle.blocks.specs.Images.{image, pieces}
use Rattle.blocks.specs.Faults.{Says}
use Rattle.blocks.proofs.FaultLaws.{fault_says}
use Rattle.blocks.proofs.ImageLaws.{image_length}
use Rattle.blocks.proofs.ImageRoundTrip.{pieces_most, image_accepted, image_stream}
use Rattle.program.specs.Tree.{Program}
use Rattle.commands.specs.Context.{params_of}
use Rattle.table.specs.Table.{Record, enc_table, Each, Held, HeldRecord, HeldTable, struct_at, Refers, RefersRecord, References, TableRight}
use Rattle.table.specs.Sizes.{table_size}
use Rattle.table.proofs.Laws.SizeLaws.{table_length, program_table_fits}
use Rattle.machine.specs.Published.{Env, Env.env, structs}
use Rattle.machine.specs.Machine.{Instance, Machine}
use Rattle.run.specs.Visits.{Visits}
use Rattle.types.specs.Stages.{Stage.went, Stage.stopped as not_begun}
use Rattle.run.specs.Begin.{params_in, record_of, table_of}
use Rattle.run.specs.Runs.{Config, StandsFor}
use Rattle.run.specs.Comes.{Comes}
use Rattle.run.proofs.Laws.OutcomeLaws.{outcome_complete}
use Rattle.run.proofs.Laws.RunAgreesVisits.{run_visits}
use Rattle.run.specs.Entry.{Begun, begins, output_of, run_output_by, run_output}
use Rattle.run.specs.Input.{TableAccepted}
use Rattle.run.proofs.Laws.InputLaws.{begins_ready}
use Rattle.sound.specs.Needs.{ValueAmong}
use Rattle.sound.specs.Invariant.{Job, Fitted, GoodAll}
use Rattle.commands.specs.Accepted.{Accepted}
use Rattle.sound.proofs.Laws.AcceptedLaws.{ready_accepted}
use Rattle.sound.specs.Tabled.{Tabled}
use Rattle.sound.specs.Startable.{Startable}
use Rattle.sound.proofs.Laws.ElemLaws.{some_is, at_below, at_drop, at_map, map_at, elem_all}
use Rattle.sound.proofs.Laws.EachLaws.{each_map}
use Rattle.sound.proofs.Laws.NeverStuckLaws.{demand3}
use Rattle.sound.proofs.Laws.StartableLaws.{begin_startable, visits_startable}

-- The table of a machine -----------------------------------------------------------

fitted_each : (is : List Instance) (ts : List Ty) (ξ : Env) → Fitted is ts ξ → Each (ValueAmong is) ts (params_in ξ)
fitted_each is ts (env ps ls) f = f.0

module _ (p : Program) {r : Option Job} {is : List Instance} (good : GoodAll p r is) (t : Tabled p is) where
  abbrev rows : List Record
  rows = map record_of (drop (structs p) is)

  -- a label is below 256
  held_value : (u : Ty) (v : Val) → ValueAmong is u v → Held u v
  held_value u v o = value_as u v (λ k l _ _ (i, e, s). let few = t.few in omega (arith, at_below is l i e)) o

  -- the struct of a label is that of its instance
  struct_found : (l k : ℕ) (i : Instance) → get_elem? is l ≡ some i → i.struct ≡ k → struct_at p.params rows l ≡ some k
  unfolding struct_at record_of
  struct_found l k i e s = go (ltb l (structs p)) refl
    where
      go : (u : Bool) → ltb l (structs p) ≡ u
          → elim u [ true ↦ some l | false ↦ elim (get_elem? rows (l - structs p)) [ none ↦ none | some r ↦ some r.struct ] ] ≡ some k
      go true q = let (j, e', s') = good.nulls l (ltb-true l (structs p) q) in let w : j ≡ i = some_is (sym e' ∙ e) in ap some (cc)
      go false q =
          let h : structs p ≤ l = ltb-false l (structs p) q in
          let w : structs p + (l - structs p) ≡ l = omega arith in
          let d : get_elem? (drop (structs p) is) (l - structs p) ≡ some i = at_drop (structs p) is (l - structs p) ∙ ap (get_elem? is) w ∙ e in
          rw (at_map record_of (drop (structs p) is) (l - structs p) i d) (ap some s)

  refers_value : (u : Ty) (v : Val) → ValueAmong is u v → Refers p.params rows u v
  refers_value int v o = tt
  refers_value nat v o = tt
  refers_value bool v o = tt
  refers_value (ref k) (int_val z) o = o
  refers_value (ref k) (nat_val n) o = o
  refers_value (ref k) (bool_val b) o = o
  refers_value (ref k) (label l) (i, e, s) = struct_found l k i e s

  -- each record is an instance, whose parameters are of their types
  row_right : (n : ℕ) (r : Record) → get_elem? rows n ≡ some r → (HeldRecord p.params r) × (RefersRecord p.params rows r)
  unfolding record_of
  row_right n r e =
      let (i, q, z) = map_at record_of (drop (structs p) is) n r e in
      let at : get_elem? is (structs p + n) ≡ some i = sym (at_drop (structs p) is n) ∙ q in
      let ts = params_of p i.struct in
      let f = fitted_each is ts i.env (good.each (structs p + n) i at).fitted in
      rw (← z) (
        ((t.each (structs p + n) i at).0, each_map held_value ts (params_in i.env) f),
        each_map refers_value ts (params_in i.env) f,
      )

  -- the instances after the null ones are a right table
  rows_right : TableRight p.params rows
  unfolding TableRight HeldTable References
  rows_right =
      let few = t.few in
      let nulls = t.null_ones in
      let size = length-map (drop (structs p) is) record_of in (
        (
          omega (arith, length-drop (structs p) is),
          elem_all (HeldRecord p.params) rows (λ n r e. (row_right n r e).0),
        ),
        elem_all (RefersRecord p.params rows) rows (λ n r e. (row_right n r e).1),
      )

-- The image of a right table ---------------------------------------------------------

-- it fits its blocks, and is accepted as an image of that table
pub image_table : (p : Program) → Accepted p → (rs : List Record) → TableRight p.params rs
    → (pieces (length (enc_table rs)) ≤ table_blocks) × (TableAccepted p (image (enc_table rs)) rs)
unfolding TableRight table_size
image_table p a rs right =
    let s = enc_table rs in
    let size = table_length p.params rs right.0 in
    let fits : length s ≤ payload_size * table_blocks = program_table_fits p a.0 rs right.0 in
    let any : 1 ≤ length s = omega arith in
    let said = subst (Says table_blocks (image s)) (image_accepted s any table_blocks (omega arith)) (fault_says table_blocks (image s)) in (
      (pieces_most s any table_blocks fits).1,
      record { image = record { length_right = said.0; blocks_right = said.1 }; right = right; bytes = image_stream s any },
    )

-- Runs -----------------------------------------------------------------------------

-- from any machine that a run may begin with
module _ {p : Program} (a : Accepted p) {m : Machine} (start : Startable p m) {es fs : List ℕ} {z : Machine} (v : Visits p m es z fs) where
  here : Startable p z
  here = visits_startable a start v

  -- every machine of a run stands at a right table
  pub table_kept : TableRight p.params (table_of p z)
  unfolding table_of
  table_kept = rows_right p here.good.all here.tabled

  -- whose image fits its blocks and is accepted as that table
  pub table_written : (pieces (length (enc_table (table_of p z))) ≤ table_blocks) × (TableAccepted p (image (enc_table (table_of p z))) (table_of p z))
  table_written = image_table p a (table_of p z) table_kept

  -- the null instance of each struct holds its defaults
  pub nulls_kept : (k : ℕ) → k < structs p
      → (i : Instance) × (get_elem? z.instances k ≡ some i) × (i.struct ≡ k) × (params_in i.env ≡ map default (params_of p k))
  nulls_kept k h =
      let (i, e, s) = here.good.all.nulls k h in
      (i, e, s, (here.tabled.each k i e).1 h ∙ ap (λ j. map default (params_of p j)) s)

-- so is the image of the table that the published rules come to
pub comes_written : {p : Program} → Accepted p → (m : Machine) → Startable p m → {c : Config} → StandsFor m c
    → {es : List ℕ} {n t k : ℕ} {rs : List Record} → Comes p c es n t k rs
    → (pieces (length (enc_table rs)) ≤ table_blocks) × (TableAccepted p (image (enc_table rs)) rs)
comes_written {p} a m start stands {es} c =
    let (z, q, h, w) = outcome_complete p m stands es c in
    rw w at (table_written a start (run_visits p m es q).0)

-- Output -----------------------------------------------------------------------------

-- a run leaves as many bytes in the output as it was lent
pub output_length : (x y es out list : List ℕ) → length (run_output x y es out list) ≡ length out
unfolding run_output run_output_by output_of image
output_length x y es out list = go (begins x y es out list) refl
  where
    go : (b : Begun) → begins x y es out list ≡ b → length (run_output_by b es out) ≡ length out
    go (not_begun n) e = refl
    go (went (p, rs)) e =
        let r = (begins_ready x y es out list p rs).0 e in
        let ok = ready_accepted r in
        let d = demand3 ok rs r.table.right es in
        let s = enc_table (table_of p d.last) in
        let few = (table_written ok (begin_startable ok rs r.table.right) d.visited).0 in
        let room = r.output_room in
        rw d.returns
        (omega (
          arith,
          length-append (image s) (drop (block_size * pieces (length s)) out),
          image_length s (pieces (length s)),
          length-drop
              (block_size * pieces (length s)) out,
        ))
