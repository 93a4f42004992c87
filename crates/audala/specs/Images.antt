-- What reading and writing an image answer, as the library hands it over (01, 'Blocks'): 1 to 3 are the faults of an image, 1 also a stream that is empty or
-- longer than its blocks hold, 13 a buffer that is too short.
use Rattle.std.specs.Prelude.{ℕ, Result, Ok, Err}
use Rattle.blocks.specs.Images.{program_number}
use Rattle.audala.specs.declared.images.Copied.{Copied}
use Rattle.blocks.specs.declared.ReadError.{ReadError}
use Rattle.blocks.specs.declared.ReadError.TheVariants.{Faulty, Short as ShortBuffer}
use Rattle.blocks.specs.declared.WriteError.{WriteError}
use Rattle.blocks.specs.declared.WriteError.TheVariants.{Length, Short as ShortOutput}

-- a number and a count
abbrev pub copied : ℕ → ℕ → Copied
copied n k = record { number = n; count = k }

unfoldable pub exported_read : Result ℕ ReadError → Copied
exported_read (Ok n) = copied 0 n
exported_read (Err (Faulty f)) = copied (program_number f) 0
exported_read (Err ShortBuffer) = copied 13 0

unfoldable pub exported_write : Result ℕ WriteError → Copied
exported_write (Ok n) = copied 0 n
exported_write (Err Length) = copied 1 0
exported_write (Err ShortOutput) = copied 13 0
