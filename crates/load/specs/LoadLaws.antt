-- What the loader answers and leaves in lent memory, by a law for each way through it, and what its answer tells a caller (01, 1 to 8 of 'Numbers from
-- the input').
use Rattle.std.specs.Prelude.{Ok, Err, ℕ, zero, suc, ◌*◌, ◌≤◌, ◌≡◌, refl, List, length, take, Option, Some, None}
use Rattle.std.proofs.Common.{arith, sym, ◌∙◌, take_at}
use Rattle.std.proofs.Math.Path.{ap}
use Rattle.std.proofs.lemmas.List.{length-map}
use Rattle.types.specs.Limits.{program_blocks, max_params}
use Rattle.types.specs.Stages.{Stage.went as accepted, Stage.stopped as refused}
use Rattle.block.specs.declared.Fault.{Fault}
use Rattle.blocks.specs.Images.{fault, stream, opened_into, program_number as block_number}
use Rattle.blocks.proofs.AnswerLaws.{stream_most}
use Rattle.program.specs.Tree.{Program}
use Rattle.program.specs.Counts.{Counts}
use Rattle.program.specs.Reader.{Result, Result.ok, Result.bad, read_params, read}
use Rattle.program.proofs.Laws.ProgramLaws.{program_law}
use Rattle.commands.specs.Bounds.{arities, program_depth}
use Rattle.commands.specs.Numbers.{breach_number}
use Rattle.verdict.specs.Verdict.{Checked, judge, of_read, of_image, checked}
use Rattle.judge.specs.ProgramFacts.{types_table}
use Rattle.read_params.specs.ParamsTold.{ParamsKept}
use Rattle.read_params.specs.ParamsWays.{table_length}
use Rattle.directory.specs.Directory.{directory}
use Rattle.directory.proofs.DirectoryLaws.{directory_count}
use Rattle.directory.specs.Rows.{rows_from}
use Rattle.emit.specs.Written.{structs_at}
use Rattle.emit.specs.Laws.ProgramLaws.{program_steps, whole_program}
use Rattle.read_program.specs.declared.Summary.{Summary}
use Rattle.read_program.specs.Whole.{place_of, schedule_place, ReadListed}
use Rattle.load.specs.declared.Loaded.{Loaded}
use Rattle.load.specs.Load.{loaded_of, loaded_by, loaded, load_told, TablesHeld, RowsHeld, Held, Admitted}
use Rattle.load.specs.StreamLaws.{Behind, passed, counted, here, plan_is, listed_is}

-- A stream -----------------------------------------------------------------------------------

-- what is refused is told, and memory is free
pub refused_told : {c : Checked} {n : ℕ} (s : List ℕ) → c ≡ refused n → Err n ≡ load_told c s
refused_told s e = rw e

pub refused_tables : {c : Checked} {n : ℕ} (cs cs' ts ts' : List ℕ) → c ≡ refused n → TablesHeld c cs cs' ts ts'
refused_tables cs cs' ts ts' e = rw e tt

same_loaded : (n at l a b c d at' l' a' b' c' d' : ℕ) → at ≡ at' → l ≡ l' → a ≡ a' → b ≡ b' → c ≡ c' → d ≡ d'
    → loaded_of n at l a b c d ≡ loaded_of n at' l' a' b' c' d'
same_loaded n at l a b c d at' l' a' b' c' d' i j e f g h = rw (i, j, e, f, g, h)

module _ (s : List ℕ) (k : ℕ) (z : Summary) (b : Behind s k z) (zero_number : z.number ≡ 0) where
  abbrev p : Program
  p = b.program

  pub value_told : Ok (loaded_by (length s) k z) ≡ load_told (of_read (read s)) s
  value_told =
      let n = counted s k z b in
      rw (passed s k z b zero_number)
      (ap Ok (same_loaded (length s) k z.plan z.structs z.steps z.commands z.depth _ _ _ _ _ _ (sym b.place) (plan_is s k z b) n.3 n.0 n.1 n.2))

  pub value_tables : (cs cs' ts ts' : List ℕ) → ParamsKept cs cs' ts ts' (read_params s 0) → TablesHeld (of_read (read s)) cs cs' ts ts'
  value_tables cs cs' ts ts' kept = rw (passed s k z b zero_number) (rw (here s k z b) at kept)

  pub value_rows : (h : List ℕ) → ReadListed (read s) h → RowsHeld (of_read (read s)) h
  value_rows h w = rw (passed s k z b zero_number) (listed_is s k z b h w)

pub refused_rows : {c : Checked} {n : ℕ} (h : List ℕ) → c ≡ refused n → RowsHeld c h
refused_rows h e = rw e tt

-- An image -----------------------------------------------------------------------------------

module _ (x : List ℕ) where
  pub image_refused : (f : Fault) → fault program_blocks x ≡ Some f → checked x ≡ refused (block_number f)
  unfolding checked of_image
  image_refused f e = ap (λ (g : Option Fault). of_image g x) e

  pub image_read : fault program_blocks x ≡ None → checked x ≡ of_read (read (stream x))
  unfolding checked of_image
  image_read e = ap (λ (g : Option Fault). of_image g x) e

pub refused_held : {c : Checked} {n : ℕ} (s b b' cs cs' ts ts' : List ℕ) → c ≡ refused n → Held c s b b' cs cs' ts ts'
refused_held s b b' cs cs' ts ts' e = rw e tt

-- with the tables the buffer is held
pub stream_held : (c : Checked) (s : List ℕ) (n : ℕ) (b b' cs cs' ts ts' : List ℕ) → n ≡ length s → b' ≡ opened_into (Ok n) s b
    → TablesHeld c cs cs' ts ts' → Held c s b b' cs cs' ts ts'
unfolding opened_into
stream_held (accepted p) s n b b' cs cs' ts ts' e f t = (rw e at f, t)
stream_held (refused k) s n b b' cs cs' ts ts' e f t = tt

-- What the answer tells ------------------------------------------------------------------------

-- the program behind an answer
pub record LoadedAs (x : List ℕ) (z : Loaded) : Type 0 where
  pub program : Program
  pub accepts : checked x ≡ accepted program
  pub is : z ≡ loaded program (stream x)

module _ (x : List ℕ) where
  pub load_refused : (n : ℕ) → load_told (checked x) (stream x) ≡ Err n → checked x ≡ refused n
  load_refused n e = go (checked x) e
    where
      go : (c : Checked) → load_told c (stream x) ≡ Err n → c ≡ refused n
      go (accepted p) i = cc
      go (refused m) i = let j : m ≡ n = cc in ap refused j

  pub load_value : (z : Loaded) → load_told (checked x) (stream x) ≡ Ok z → LoadedAs x z
  load_value z e = go (checked x) refl e
    where
      go : (c : Checked) → checked x ≡ c → load_told c (stream x) ≡ Ok z → LoadedAs x z
      go (accepted p) q i = record { program = p; accepts = q; is = cc }
      go (refused m) q i = cc

-- an accepted image is right, its stream is read as the program, and no number refuses it
judge_accepts : (p q : Program) (n : ℕ) → judge q n ≡ accepted p → (q ≡ p) × (n ≡ 0)
unfolding judge
judge_accepts p q zero e = (cc, refl)
judge_accepts p q (suc n) e = cc

pub record Source (x : List ℕ) (p : Program) : Type 0 where
  pub right : fault program_blocks x ≡ None
  pub end : ℕ
  pub reads : read (stream x) ≡ ok p end
  pub numbered : breach_number p ≡ 0

pub accepted_source : (x : List ℕ) (p : Program) → checked x ≡ accepted p → Source x p
unfolding checked of_image of_read
accepted_source x p e = go (fault program_blocks x) refl e
  where
    inside : fault program_blocks x ≡ None → (r : Result Program) → read (stream x) ≡ r → of_read r ≡ accepted p → Source x p
    inside f (ok q m) i h =
        let j = judge_accepts p q (breach_number q) h in
        record { right = f; end = m; reads = i ∙ ap (λ (a : Program). ok a m) j.0; numbered = ap breach_number (sym j.0) ∙ j.1 }
    inside f (bad n k) i h = cc

    go : (g : Option Fault) → fault program_blocks x ≡ g → of_image g x ≡ accepted p → Source x p
    go (Some f) i h = cc
    go None i h = inside i (read (stream x)) refl h

module _ (x : List ℕ) (z : Loaded) (l : LoadedAs x z) where
  abbrev loaded_program : Program
  loaded_program = l.program

  source : Source x loaded_program
  source = accepted_source x loaded_program l.accepts

  -- the stream fits the buffer, and the counts their table
  pub length_fits : z.length ≤ 32256
  length_fits = omega (arith, ap (λ (y : Loaded). y.length) l.is, stream_most program_blocks x source.right)

  pub structs_are : z.structs ≡ length loaded_program.params
  structs_are = ap (λ (y : Loaded). y.structs) l.is

  pub loaded_counts : Counts loaded_program
  loaded_counts = ((program_law (stream x) loaded_program source.end).0 source.reads).0

  pub structs_few : z.structs ≤ 16
  unfolding Counts
  structs_few = omega (arith, structs_are, loaded_counts.0.1)

  pub depth_is : z.depth ≡ program_depth loaded_program
  depth_is = ap (λ (y : Loaded). y.depth) l.is

  -- the place of the steps is the one behind the parameters
  place_is : read_params (stream x) 0 ≡ ok loaded_program.params z.at
  place_is =
      let d = program_steps (stream x) 0 loaded_program source.end (whole_program (stream x) loaded_program source.end source.reads) in
      d.params ∙ ap (λ (i : ℕ). ok loaded_program.params i) (sym (ap place_of d.params) ∙ sym (ap (λ (y : Loaded). y.at) l.is))

  -- behind the steps stands the schedule
  pub plan_place : structs_at (arities loaded_program) (stream x) (length (arities loaded_program)) z.at ≡ ok loaded_program.steps z.plan
  plan_place =
      let d = program_steps (stream x) 0 loaded_program source.end (whole_program (stream x) loaded_program source.end source.reads) in
      let e : d.behind ≡ z.at = sym (ap place_of d.params) ∙ sym (ap (λ (y : Loaded). y.at) l.is) in
      let f = rw e at d.steps in
      let g : schedule_place (stream x) loaded_program ≡ d.last =
      ap (λ (i : ℕ). place_of (structs_at (arities loaded_program) (stream x) (length (arities loaded_program)) i))
      (ap place_of d.params) ∙ ap place_of d.steps in
      f ∙ ap (λ (i : ℕ). ok loaded_program.steps i) (sym g ∙ sym (ap (λ (y : Loaded). y.plan) l.is))

  -- the rows are its step directory
  pub rows_are : (h : List ℕ) → RowsHeld (checked x) h → rows_from h 0 z.steps ≡ directory loaded_program
  rows_are h w =
      let n : z.steps ≡ length (directory loaded_program) = ap (λ (y : Loaded). y.steps) l.is ∙ sym (directory_count loaded_program) in
      ap (λ (i : ℕ). rows_from h 0 i) n ∙ rw l.accepts at w

  -- what stands in front of lent memory
  module _ (b b' cs cs' ts ts' : List ℕ) (held : Held (checked x) (stream x) b b' cs cs' ts ts') where
    kept : Held (accepted loaded_program) (stream x) b b' cs cs' ts ts'
    kept = rw l.accepts at held

    pub front_is : take z.length b' ≡ stream x
    front_is = rw kept.0 (take_at (stream x) _ z.length (sym (ap (λ (y : Loaded). y.length) l.is)))

    pub counts_are : take z.structs cs' ≡ arities loaded_program
    counts_are = rw kept.1.0 (take_at (arities loaded_program) _ z.structs (length-map loaded_program.params length ∙ sym structs_are))

    pub types_are : take (max_params * z.structs) ts' ≡ types_table loaded_program.params
    types_are =
        rw kept.1.1
        (take_at (types_table loaded_program.params) _ (max_params * z.structs) (omega (arith, table_length loaded_program.params, structs_are)))

    -- it is admitted to what comes behind checking
    pub admitted : Admitted (take z.length b') (take z.structs cs') z.at loaded_program
    admitted = record {
      end = source.end;
      reads = rw front_is source.reads;
      numbered = source.numbered;
      counted = counts_are;
      place = rw front_is place_is;
    }
