-- What each refusal of a run answers and leaves (01, 'Numbers from the input'), and what a run answers after all of them.
use Rattle.std.specs.Prelude.{ℕ, ◌*◌, ◌<◌, ◌≤◌, ◌≡◌, Bool, List, length, Result, Ok, Err}
use Rattle.std.proofs.Math.Path.{refl}
use Rattle.std.proofs.Math.Bool.{true, false}
use Rattle.std.proofs.Math.Dec.{ltb}
use borrow.Author.Tests.{lt-ltb, le-ltb, ltb-true, ltb-false}
use Rattle.types.specs.Limits.{table_blocks, max_commands, max_turns}
use Rattle.types.specs.Numbers.{no_room, many_turns}
use Rattle.types.specs.Stages.{on, asked}
use Rattle.block.specs.Block.{block_size}
use Rattle.program.specs.Tree.{Program}
use Rattle.table.specs.Table.{Record}
use Rattle.verdict.specs.Verdict.{listed}
use Rattle.run.specs.Begin.{begin}
use Rattle.run.specs.Entry.{Begun, begun, not_begun, with_room, images, begins, report, run_report_by, run_output_by, run_list_by}
use Rattle.run.specs.Entry.{run_report, run_output, run_list}
use Rattle.run_images.specs.declared.Report.{Report}
use Rattle.run_images.specs.Answer.{answer}
use Rattle.run_images.specs.Stages.{room_told, Answers, Came}

-- the three tests in order
module _ (o l n : ℕ) where
  pub short_output : o < block_size * table_blocks → room_told o l n ≡ Err no_room
  unfolding room_told
  short_output h = rw (room_told, lt-ltb o (block_size * table_blocks) h)

  module _ (long : block_size * table_blocks ≤ o) where
    pub short_list : l < max_commands → room_told o l n ≡ Err no_room
    unfolding room_told
    short_list h = rw (room_told, le-ltb o (block_size * table_blocks) long, lt-ltb l max_commands h)

    module _ (places : max_commands ≤ l) where
      pub many_bytes : max_turns < n → room_told o l n ≡ Err many_turns
      unfolding room_told
      many_bytes h = rw (room_told, le-ltb o (block_size * table_blocks) long, le-ltb l max_commands places, lt-ltb max_turns n h)

      pub room_enough : n ≤ max_turns → room_told o l n ≡ Ok tt
      unfolding room_told
      room_enough h = rw (room_told, le-ltb o (block_size * table_blocks) long, le-ltb l max_commands places, le-ltb max_turns n h)

-- there is room for everything
pub record Room (es out list : List ℕ) : Type 0 where
  pub long : block_size * table_blocks ≤ length out
  pub places : max_commands ≤ length list
  pub few : length es ≤ max_turns

module _ {es out list : List ℕ} where
  -- what comes to a refusal is answered by it
  refused_by : {b : Begun} {r : Report} {n : ℕ} → on b (with_room es out list) ≡ not_begun n → r ≡ answer (report n 0 0 0 0)
      → Answers b es out list r out list
  unfolding run_report_by run_output_by run_list_by
  refused_by e h = record { reported = rw e h; written = rw e; listed = rw e }

  pub refused_answers : {b : Begun} {r : Report} {n : ℕ} → b ≡ not_begun n → r ≡ answer (report n 0 0 0 0) → Answers b es out list r out list
  unfolding on
  refused_answers e h = refused_by (rw e refl) h

  -- by what the tests come to
  module _ {t : Result (Unit {0}) ℕ} (told : t ≡ room_told (length out) (length list) (length es)) where
    pub room_open : t ≡ Ok tt → Room es out list
    room_open z = go (ltb (length out) (block_size * table_blocks)) refl (ltb (length list) max_commands) refl (ltb max_turns (length es)) refl
      where
        go : (t : Bool) → ltb (length out) (block_size * table_blocks) ≡ t → (u : Bool) → ltb (length list) max_commands ≡ u → (v : Bool)
            → ltb max_turns (length es) ≡ v → Room es out list
        go true t u i v j =
            let e = short_output (length out) (length list) (length es) (ltb-true (length out) (block_size * table_blocks) t) in absurd (cc)
        go false t true i v j =
            let e = short_list (length out) (length list) (length es) (ltb-false (length out) (block_size * table_blocks) t)
            (ltb-true (length list) max_commands i) in
            absurd (cc)
        go false t false i true j =
            let e = many_bytes (length out) (length list) (length es) (ltb-false (length out) (block_size * table_blocks) t)
            (ltb-false (length list) max_commands i) (ltb-true max_turns (length es) j) in
            absurd (cc)
        go false t false i false j = record {
          long = ltb-false (length out) (block_size * table_blocks) t;
          places = ltb-false (length list) max_commands i;
          few = ltb-false max_turns (length es) j;
        }

    -- program and table begin a run
    pub room_answers : {b : Begun} {p : Program} {rs : List Record} {r : Report} {n : ℕ} → b ≡ begun p rs → t ≡ Err n → r ≡ answer (report n 0 0 0 0)
        → Answers b es out list r out list
    unfolding on with_room asked
    room_answers {b} {p} {rs} {r} {n} begins z h =
        go (ltb (length out) (block_size * table_blocks)) refl (ltb (length list) max_commands) refl (ltb max_turns (length es)) refl
      where
        go : (t : Bool) → ltb (length out) (block_size * table_blocks) ≡ t → (u : Bool) → ltb (length list) max_commands ≡ u → (v : Bool)
            → ltb max_turns (length es) ≡ v → Answers b es out list r out list
        go true t u i v j =
            let e = short_output (length out) (length list) (length es) (ltb-true (length out) (block_size * table_blocks) t) in
            let k : n ≡ no_room = cc in
            refused_by (rw (begins, t)) (rw k at h)
        go false t true i v j =
            let e = short_list (length out) (length list) (length es) (ltb-false (length out) (block_size * table_blocks) t)
            (ltb-true (length list) max_commands i) in
            let k : n ≡ no_room = cc in
            refused_by (rw (begins, t, i)) (rw k at h)
        go false t false i true j =
            let e = many_bytes (length out) (length list) (length es) (ltb-false (length out) (block_size * table_blocks) t)
            (ltb-false (length list) max_commands i) (ltb-true max_turns (length es) j) in
            let k : n ≡ many_turns = cc in
            refused_by (rw (begins, t, i, j)) (rw k at h)
        go false t false i false j =
            let e = room_enough (length out) (length list) (length es) (ltb-false (length out) (block_size * table_blocks) t)
            (ltb-false (length list) max_commands i) (ltb-false max_turns (length es) j) in
            absurd (cc)

  -- a run of the machine that the table begins with is answered
  module _ {b : Begun} {p : Program} {rs : List Record} (begins : b ≡ begun p rs) (room : Room es out list) where
    room_is : on b (with_room es out list) ≡ begun p rs
    unfolding on with_room asked
    room_is =
        rw (
          begins,
          le-ltb (length out) (block_size * table_blocks) room.long,
          le-ltb (length list) max_commands room.places,
          le-ltb max_turns (length es) room.few,
        )

    pub came_answers : {r : Report} {out' list' : List ℕ} → Came p (begin p rs) es out r out' → list' ≡ listed p list → Answers b es out list r out' list'
    unfolding run_report_by run_output_by run_list_by
    came_answers c g = record {
      reported = rw (room_is, run_report_by) c.reported;
      written = rw (room_is, run_output_by) c.written;
      listed = rw (room_is, run_list_by) g;
    }

-- The whole call ------------------------------------------------------------------------

-- what images come to is what the call answers
pub entry_answers : (x y es out list : List ℕ) {r : Report} {out' list' : List ℕ} → Answers (images x y) es out list r out' list'
    → (r ≡ answer (run_report x y es out list)) × ((out' ≡ run_output x y es out list) × (list' ≡ run_list x y es out list))
unfolding run_report run_output run_list begins
entry_answers x y es out list a = (a.reported, (a.written, a.listed))
