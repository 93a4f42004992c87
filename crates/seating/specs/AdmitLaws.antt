-- The stream of a program that was loaded, moved into other room: memory holds the program as before (01, 'Program stream').
use Rattle.std.specs.Prelude.{ℕ, ◌*◌, ◌≤◌, ◌≡◌, List, length, take}
use Rattle.std.proofs.Common.{arith, ap, ◌∙◌}
use Rattle.types.specs.Limits.{max_structs, max_params}
use Rattle.types.specs.Stages.{Stage.went as accepted}
use Rattle.block.specs.Put.{put}
use Rattle.block.proofs.Laws.PutLaws.{put_front}
use Rattle.blocks.specs.Images.{stream}
use Rattle.directory.specs.Rows.{row_places, directory_places}
use Rattle.directory.proofs.DirectoryLaws.{directory_count, directory_few}
use Rattle.verdict.specs.Verdict.{checked}
use Rattle.load.specs.declared.Loaded.{Loaded}
use Rattle.load.specs.Load.{RowsHeld, Held}
use Rattle.load.specs.LoadLaws.{LoadedAs, loaded_counts, front_is, admitted, types_are, plan_place, rows_are, depth_is, structs_few}
use Rattle.seating.specs.declared.Opened.{Opened}
use Rattle.seating.specs.Seated.{Opens, Admits}
use Rattle.program.specs.Tree.{Program}

pub kept_held : (x : List ℕ) (z : Loaded) (l : LoadedAs x z) (b b' d d' cs cs' ts ts' : List ℕ) → Held (checked x) (stream x) b b' cs cs' ts ts'
    → d' ≡ put d 0 (take z.length b') → Held (checked x) (stream x) d d' cs cs' ts ts'
kept_held x z l b b' d d' cs cs' ts ts' held e =
    let h : Held (accepted l.program) (stream x) b b' cs cs' ts ts' = rw l.accepts at held in
    let f = rw (front_is x z l b b' cs cs' ts ts' held) at e in
    rw l.accepts (f ∙ put_front d (stream x), h.1)

-- so it is opened, by the stream, the parameters and the rows that stand there
module _ (x : List ℕ) (z : Loaded) (l : LoadedAs x z) (rows : List ℕ) (rowed : RowsHeld (checked x) rows) (long : directory_places ≤ length rows) where
  -- a row for each step
  rows_fit : row_places * z.steps ≤ length rows
  rows_fit =
      let p = l.program in
      omega (arith, ap (λ (y : Loaded). y.steps) l.is, directory_count p, directory_few p (loaded_counts x z l))

  pub held_opens : (b b' cs cs' ts ts' : List ℕ) → Held (checked x) (stream x) b b' cs cs' ts ts'
      → length cs' ≡ max_structs → length ts' ≡ max_structs * max_params
      → Opens (record { loaded = z; counts = cs'; types = ts' }) (take z.length b') rows l.program
  held_opens b b' cs cs' ts ts' held e f = record {
    admitted = admitted x z l b b' cs cs' ts ts' held;
    typed = types_are x z l b b' cs cs' ts ts' held;
    planned = rw (front_is x z l b b' cs cs' ts ts' held) (plan_place x z l);
    listed = rows_are x z l rows rowed;
    deep = depth_is x z l;
    few = structs_few x z l;
    wide = (e, f);
    long = rows_fit;
  }

-- and its parameters are admitted
pub opens_admits : {o : Opened} {s rows : List ℕ} {p : Program} → Opens o s rows p
    → Admits s (take o.loaded.structs o.counts) (take (max_params * o.loaded.structs) o.types) o.loaded.at p
opens_admits o = record { admitted = o.admitted; typed = o.typed }
