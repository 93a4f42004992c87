-- What listing an image answers and leaves, as the library hands it over (01, 'Bench rows'): 13 where the output is shorter than any listing may be, else the
-- listing's bytes in the front of the output.
use Rattle.std.specs.Prelude.{ℕ, Bool, true, false, List, ◌++◌, length, drop, ltb}
use Rattle.types.specs.Numbers.{no_room}
use Rattle.listing.specs.Listings.{listing_bytes}
use Rattle.audala.specs.Images.{copied}
use Rattle.audala.specs.declared.images.Copied.{Copied}

-- whether an output is too short
abbrev pub short : List ℕ → Bool
short out = ltb (length out) listing_bytes

unfoldable pub exported_listing : List ℕ → List ℕ → Copied
exported_listing t out = elim (short out) [ true ↦ copied no_room 0 | false ↦ copied 0 (length t) ]

-- the output after it: the listing in front, its other bytes untouched
unfoldable pub listed : List ℕ → List ℕ → List ℕ
listed t out = elim (short out) [ true ↦ out | false ↦ t ++ drop (length t) out ]
