-- Both ways through the export of a listing: the output is too short, or the listing is placed in its front.
use Rattle.std.specs.Prelude.{ℕ, ◌<◌, ◌≤◌, ◌≡◌, refl, List, ◌++◌, length}
use Rattle.std.proofs.Common.{arith, ◌∙◌, lt-ltb, le-ltb}
use Rattle.std.proofs.Math.Nat.{zero-add}
use Rattle.std.proofs.Math.Path.{ap}
use Rattle.std.proofs.Math.ListN.{drop}
use Rattle.std.proofs.Math.Seq.{sets-eq}
use Rattle.types.specs.Numbers.{no_room}
use Rattle.text.specs.Listing.{Placed}
use Rattle.listing.specs.Listings.{listing_bytes}
use Rattle.audala.specs.Images.{copied}
use Rattle.audala.specs.Listed.{exported_listing, listed}

module _ (t out : List ℕ) where
  -- an output that is too short
  pub short_listed : length out < listing_bytes → (copied no_room 0 ≡ exported_listing t out) × (out ≡ listed t out)
  unfolding exported_listing listed
  short_listed h = rw (lt-ltb (length out) listing_bytes h, exported_listing, listed) (refl, refl)

  -- a text that is placed in the front of an output with room
  pub placed_listed : {out' : List ℕ} {r : ℕ} → listing_bytes ≤ length out → r ≤ length out → Placed t out 0 r out'
      → (copied 0 r ≡ exported_listing t out) × (out' ≡ listed t out)
  unfolding exported_listing listed
  placed_listed {r = r} h few p =
      rw (le-ltb (length out) listing_bytes h, exported_listing, listed) (
        ap (copied 0) (p.end ∙ zero-add (length t)),
        p.list ∙ sets-eq t out 0 (omega (arith, p.end, few)) ∙ ap (λ n. t ++ drop n out) (zero-add (length t)),
      )
