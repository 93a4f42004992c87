-- A table image under an accepted program (01, 'Table and turns', and numbers 9 to 12): it is refused, or its instances are seated.
use Rattle.std.specs.Prelude.{ℕ, ◌+◌, ◌*◌, ◌≡◌, refl, List, [], length, Ok, Err}
use Rattle.std.proofs.Common.{arith, ap, sym, ◌∙◌}
use Rattle.types.specs.Limits.{max_instances}
use Rattle.types.specs.Stages.{Stage.went as table, Stage.stopped as no_table, Stage.went as accepted, Stage.stopped as refused, on}
use Rattle.program.specs.Tree.{Program}
use Rattle.program.specs.Counts.{Counts}
use Rattle.program.proofs.Laws.ProgramLaws.{program_law}
use Rattle.judge.specs.ProgramFacts.{types_table}
use Rattle.table.specs.Table.{Record}
use Rattle.table.specs.TableReader.{TableAnswer}
use Rattle.commands.specs.Bounds.{arities}
use Rattle.verdict.specs.Verdict.{checked, listed}
use Rattle.machine.specs.Published.{structs}
use Rattle.run.specs.Begin.{begin}
use Rattle.run.proofs.Laws.BeginLaws.{begin_idle, begin_from}
use Rattle.run.specs.Entry.{tabled, begun, not_begun, with_table, images}
use Rattle.sound.proofs.Laws.BeginGood.{begin_good}
use Rattle.sound.proofs.Laws.TabledLaws.{begin_tabled}
use Rattle.layout.specs.Layout.{head_size, row_size}
use Rattle.layout.specs.declared.Numbers.{Numbers}
use Rattle.layout.specs.State.{fresh}
use Rattle.memory.specs.Plan.{At}
use Rattle.memory.proofs.Laws.ChooseStands.{holding_same}
use Rattle.load.specs.Load.{Admitted}
use Rattle.table_read.specs.Params.{lists_of, Tables}
use Rattle.table_read.specs.TableTold.{table_told, TableLaid}
use Rattle.table_read.specs.Laws.ReadStands.{program_tables, image_answer_is, image_right, image_stands}
use Rattle.seating.specs.declared.Opened.{Opened}
use Rattle.seating.specs.Seated.{Opens, Admits, seat_of, Seated, Tabled}
use Rattle.seating.specs.AdmitLaws.{opens_admits}

pub admitted_counts : {s counts : List ℕ} {at : ℕ} {p : Program} → Admitted s counts at p → Counts p
admitted_counts {s = s} {p = p} a = ((program_law s p a.end).0 a.reads).0

module _ {s counts types : List ℕ} {at : ℕ} {p : Program} (a : Admits s counts types at p) where
  -- the program's parameters may be read by
  pub admitted_tables : Tables counts types
  admitted_tables = rw (a.admitted.counted, a.typed) (program_tables p (admitted_counts a.admitted))

  module _ (y : List ℕ) where
    abbrev told : TableAnswer
    told = tabled (lists_of counts types) y

    -- what was read, from what was answered
    came : table_told (length counts) told ≡ table_told (structs p) (tabled p.params y)
    came = rw (a.admitted.counted, a.typed) (image_answer_is p (admitted_counts a.admitted) y)

    pub image_refused : (n : ℕ) → table_told (length counts) told ≡ Err n → tabled p.params y ≡ no_table n
    image_refused n e = go (tabled p.params y) (sym came ∙ e)
      where
        go : (q : TableAnswer) → table_told (structs p) q ≡ Err n → q ≡ no_table n
        go (table rs) i = let z : ◌≡◌ {A = ℕ} 0 1 = cc in absurd (omega arith)
        go (no_table k) i = let j : k ≡ n = cc in ap no_table j

    -- the records of an answer begin a run, and the machine that it begins with is seated by fresh numbers
    abbrev pub SeatsFresh : ℕ → List ℕ → List ℕ → Type 0
    SeatsFresh n h d =
        (rs : List Record)
        × (tabled p.params y ≡ table rs)
        × ((m : Numbers) → m ≡ fresh n → Seated s counts (seat_of at m) h d p (begin p rs))

    pub image_seated : {n : ℕ} (h d h' d' : List ℕ) → length h ≡ head_size * max_instances → length d ≡ row_size * max_instances
        → TableLaid counts types h d told h' d' → table_told (length counts) told ≡ Ok n → SeatsFresh n h' d'
    image_seated {n} h d h' d' long wide laid e = go (tabled p.params y) refl
      where
        counted : Counts p
        counted = admitted_counts a.admitted

        go : (q : TableAnswer) → tabled p.params y ≡ q → SeatsFresh n h' d'
        go (table rs) q =
            let i : table_told (structs p) (table rs) ≡ Ok n = ap (table_told (structs p)) (sym q) ∙ sym came ∙ e in
            let k : n ≡ structs p + length rs = cc in
            let w : TableLaid (arities p) (types_table p.params) h d (tabled (lists_of (arities p) (types_table p.params)) y) h' d' =
            rw (a.admitted.counted, a.typed) at laid in
            let right = image_right p counted y rs q in
            let lies = image_stands p counted rs h d h' d' long wide in (
              rs,
              q,
              λ m f. record {
                admitted = a.admitted;
                good = begin_good p counted rs right;
                tabled = begin_tabled p rs right;
                kept = rw (f, k) (sym (holding_same (begin p rs) (lies [] (λ b s. Unit {0}) 0 tt y q w) ∙ ap length (begin_idle p rs)));
                counting = rw f (sym (begin_from p rs));
                stands = λ list items o. rw (f, k) (lies (listed p list) (At items) 0 o y q w);
              },
            )
        go (no_table k) q =
            let i : table_told (structs p) (no_table k) ≡ Ok n = ap (table_told (structs p)) (sym q) ∙ sym came ∙ e in
            let z : ◌≡◌ {A = ℕ} 0 1 = cc in
            absurd (omega arith)

-- the parameters of a program that is opened
pub opens_tabled : {o : Opened} {s rows : List ℕ} {p : Program} → Opens o s rows p → Tabled o
opens_tabled o = admitted_tables (opens_admits o)

-- Program and table ------------------------------------------------------------------------

-- as a run begins with them: a program that is refused or accepted,
module _ (x y : List ℕ) where
  pub images_refused : {n : ℕ} → checked x ≡ refused n → images x y ≡ not_begun n
  unfolding images on
  images_refused e = rw e

  pub images_with : {p : Program} → checked x ≡ accepted p → images x y ≡ with_table y p
  unfolding images on
  images_with e = rw e

-- and under it a table
module _ (y : List ℕ) (p : Program) where
  pub with_refused : {n : ℕ} → tabled p.params y ≡ no_table n → with_table y p ≡ not_begun n
  unfolding with_table on
  with_refused e = rw e

  pub with_begun : {rs : List Record} → tabled p.params y ≡ table rs → with_table y p ≡ begun p rs
  unfolding with_table on
  with_begun e = rw e
