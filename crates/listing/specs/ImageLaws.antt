-- What an image is loaded as gives its listing (01, 'Bench rows').
use Rattle.std.specs.Prelude.{ℕ, ◌+◌, ◌*◌, ◌≤◌, ◌≡◌, refl, List, [], ◌∷◌, ◌++◌, length}
use Rattle.std.proofs.Common.{arith, sym, ◌∙◌}
use Rattle.std.proofs.Math.Path.{ap}
use Rattle.types.specs.Limits.{max_commands}
use Rattle.types.specs.Stages.{Stage.stopped as refused}
use Rattle.program.specs.Tree.{Program}
use Rattle.commands.specs.Bounds.{Within}
use Rattle.commands.proofs.Laws.NumbersLaws.{number_accepted}
use Rattle.directory.specs.Rows.{directory_places, rows_from}
use Rattle.directory.proofs.DirectoryLaws.{directory_count, directory_few}
use Rattle.verdict.specs.Verdict.{checked, listed}
use Rattle.load.specs.declared.Loaded.{Loaded}
use Rattle.load.specs.Load.{RowsHeld}
use Rattle.load.specs.LoadLaws.{LoadedAs, Source, accepted_source, loaded_counts, rows_are}
use Rattle.text.specs.Listing.{row}
use Rattle.step_lines.specs.Lines.{program_lines}
use Rattle.step_lines.specs.RowLines.{line_most, rows_lines, Listable}
use Rattle.step_lines.specs.DirectoryLinesLaws.{directory_lines, directory_listable}
use Rattle.listing.specs.Listings.{audala, refused_word, head, listing, listing_of}

-- an image that is refused is listed with its number
pub image_listing : (x : List ℕ) (m n : ℕ) → m ≡ n → checked x ≡ refused n → listing_of x ≡ row refused_word (m ∷ [])
unfolding listing listing_of
image_listing x m n e h = rw (h, e)

-- of an image that is loaded
module _ (x : List ℕ) (z : Loaded) (l : LoadedAs x z) where
  abbrev p : Program
  p = l.program

  source : Source x p
  source = accepted_source x p l.accepts

  within : Within p
  within = ((number_accepted p).0 source.numbered).0

  -- its head, and then its lines
  pub accepted_listing : listing_of x ≡ row audala (z.structs ∷ z.steps ∷ z.commands ∷ z.depth ∷ []) ++ program_lines p
  unfolding listing listing_of head
  accepted_listing =
      ap listing l.accepts
      ∙ ap (λ (y : Loaded). row audala (y.structs ∷ y.steps ∷ y.commands ∷ y.depth ∷ []) ++ program_lines p) (sym l.is)

  -- off its rows, and a list that begins with its commands
  module _ (rows : List ℕ) (rowed : RowsHeld (checked x) rows) (list : List ℕ) {list' : List ℕ} (is : list' ≡ listed p list) where
    pub accepted_lines : rows_lines list' (rows_from rows 0 z.steps) ≡ program_lines p
    unfolding listed
    accepted_lines = rw (rows_are x z l rows rowed) (directory_lines p (loaded_counts x z l) list' _ is)

    -- there is room for its lines
    pub accepted_listable : (out : List ℕ) (k : ℕ) → length rows ≡ directory_places → max_commands ≤ length list'
        → k + line_most * max_commands ≤ length out → Listable rows z.steps list' out k
    unfolding Within
    accepted_listable out k wide long h =
        directory_listable p (loaded_counts x z l) rows z.steps list' out k (rows_are x z l rows rowed)
        (omega (arith, ap (λ (y : Loaded). y.steps) l.is, directory_count p, directory_few p (loaded_counts x z l)))
        (omega (arith, within.1, long))
        (omega (arith, within.1))
