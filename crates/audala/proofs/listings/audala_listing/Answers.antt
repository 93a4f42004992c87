-- `audala_listing` meets its contract: the output is too short, or `listing` writes into its front.
use Rattle.std.proofs.Common.{◌∙◌}
use Rattle.audala.proofs.ListedLaws.{short_listed, placed_listed}
use Rattle.audala.proofs.listings.audala_listing.Goals as goal

pub returns-then-output-lt-LISTING_BYTES : goal.returns-then-output-lt-LISTING_BYTES
returns-then-output-lt-LISTING_BYTES c =
    let both = short_listed _ c.args.output.now c.if-output-lt-LISTING_BYTES.true in
    record { value = c.from.ensures ∙ both.0; output_after = both.1 }

pub returns : goal.returns
returns c =
    let said = c.listing.ensures in
    let both = placed_listed _ c.args.output.now c.if-output-lt-LISTING_BYTES.false said.upper_bound said.placed in
    record { value = c.done.ensures ∙ both.0; output_after = both.1 }
