-- What each answer of reading an image and of writing a stream says (01, 'Blocks').
use Rattle.std.specs.Prelude.{ℕ, ◌*◌, ◌<◌, ◌≤◌, ◌≡◌, List, length, Some, None, Result, Ok, Err}
use Rattle.block.specs.Block.{block_size, payload_size}
use Rattle.blocks.specs.Images.{most, fault, stream, pieces}
use Rattle.blocks.specs.declared.ReadError.{ReadError}
use Rattle.blocks.specs.declared.ReadError.TheVariants.{Faulty, Short as ShortBuffer}
use Rattle.blocks.specs.declared.WriteError.{WriteError}
use Rattle.blocks.specs.declared.WriteError.TheVariants.{Length, Short as ShortOutput}

-- of an image, where max blocks are allowed, and a buffer of that many bytes
abbrev pub ReadSays : ℕ → List ℕ → ℕ → Result ℕ ReadError → Type 0
ReadSays max x room (Ok n) = (fault max x ≡ None) × (n ≡ length (stream x)) × (n ≤ room)
ReadSays max x room (Err (Faulty f)) = fault max x ≡ Some f
ReadSays max x room (Err ShortBuffer) = (fault max x ≡ None) × (room < length (stream x))

-- a stream's length: 1 to 504 × most
abbrev pub StreamRight : ℕ → ℕ → Type 0
StreamRight max n = (1 ≤ n) × (n ≤ payload_size * most max)

-- of a stream of n bytes and an output of that many bytes
abbrev pub WriteSays : ℕ → ℕ → ℕ → Result ℕ WriteError → Type 0
WriteSays max n room (Ok k) = StreamRight max n × (k ≡ pieces n) × (block_size * k ≤ room)
WriteSays max n room (Err Length) = StreamRight max n → ⊥
WriteSays max n room (Err ShortOutput) = StreamRight max n × (room < block_size * pieces n)
