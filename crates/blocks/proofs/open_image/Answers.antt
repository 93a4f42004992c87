-- `open_image` meets its contract, by a law for each way through it.
use Rattle.std.proofs.Common.{◌≡◌, sym, ◌∙◌, Err}
use Rattle.blocks.specs.declared.ReadError.TheVariants.{Faulty}
use Rattle.blocks.proofs.OpeningLaws.{into_stream, into_refused, open_stream, open_refused, open_short}
use Rattle.blocks.proofs.open_image.Goals as goal

pub returns-in-Ok : goal.returns-in-Ok
returns-in-Ok c =
    let told = c.in-Ok.is in
    record { value = open_stream _ _ _ _ (sym c.read_image.ensures.value ∙ told); buffer_after = into_stream _ _ _ _ c.read_image.ensures.buffer_after _ told }

pub returns-in-Err-Faulty : goal.returns-in-Err-Faulty
returns-in-Err-Faulty c =
    let args = c.args in
    let told : c.read_image.result ≡ Err (Faulty c.in-Err-Faulty.fault) = cc in
    record {
      value = open_refused args.max args.image.now _ _ (sym c.read_image.ensures.value ∙ told);
      buffer_after = into_refused _ _ _ _ c.read_image.ensures.buffer_after _ told;
    }

pub returns-in-Err-Short : goal.returns-in-Err-Short
returns-in-Err-Short c = absurd (open_short c.args.max c.args.image.now _ c.requires (cc))
