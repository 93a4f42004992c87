-- Images of several blocks and their streams (01, 'Blocks' and 'Numbers from the input'): what is wrong with an image, the stream of an image,
-- the image of a stream; what reading and writing answer, and what they leave in the buffer.
use Rattle.std.specs.Prelude.{ℕ, zero, suc, ◌+◌, ◌*◌, ◌/◌, ◌%◌, ◌≤◌, min, ◌≡◌, Bool, true, false, ◌&&◌, List, [], ◌++◌, length, take, drop, eqb, leb, ltb}
use Rattle.types.specs.Numbers.{program_length, block_sums, block_layout, table_length, table_block}
use Rattle.block.specs.Sums.{wrap}
use Rattle.block.specs.Block.{block_size, payload_size, block_fault, used_part, block_of}
use Rattle.block.specs.declared.Fault.{Fault}
use Rattle.block.specs.declared.Fault.TheVariants.{Length, Sum, Layout}
use Rattle.std.specs.Prelude.{Option, Some, None, Result, Ok, Err}
use Rattle.blocks.specs.declared.ReadError.{ReadError}
use Rattle.blocks.specs.declared.ReadError.TheVariants.{Faulty, Short as ShortBuffer}
use Rattle.blocks.specs.declared.WriteError.{WriteError}
use Rattle.blocks.specs.declared.WriteError.TheVariants.{Length as WrongLength, Short as ShortOutput}

-- how many blocks an image may have where max are allowed: an index has two bytes, so 65,536 at most
abbrev pub most : ℕ → ℕ
most max = min max wrap

-- a length of an image: a multiple of 512 from 512 to 512 × most
pub record LengthRight (max n : ℕ) : Type 0 where
  pub whole : n % block_size ≡ 0
  pub from_one : block_size ≤ n
  pub to_most : n ≤ block_size * most max

unfoldable pub length_right : ℕ → ℕ → Bool
length_right max n = eqb (n % block_size) 0 && (leb block_size n && leb n (block_size * most max))

-- Reading ---------------------------------------------------------------------

-- block k of an image, and how many it has
unfoldable pub block : List ℕ → ℕ → List ℕ
block x k = take block_size (drop (block_size * k) x)

abbrev pub count : List ℕ → ℕ
count x = length x / block_size

-- whether block k is the last of n
unfoldable pub is_last : ℕ → ℕ → Bool
is_last n k = eqb (k + 1) n

-- the first fault of the first k blocks of an image of n: blocks in order
unfoldable pub first_fault : ℕ → List ℕ → ℕ → Option Fault
first_fault n x zero = None
first_fault n x (suc k) = elim (first_fault n x k) [ Some f ↦ Some f | None ↦ block_fault k (is_last n k) (block x k) ]

-- what is wrong with an image where max blocks are allowed: its length before its blocks
unfoldable pub fault : ℕ → List ℕ → Option Fault
fault max x = elim (length_right max (length x)) [ false ↦ Some Length | true ↦ first_fault (count x) x (count x) ]

-- the used payloads of the first k blocks, joined; those of all are the stream
unfoldable pub joined : List ℕ → ℕ → List ℕ
joined x zero = []
joined x (suc k) = joined x k ++ used_part (block x k)

unfoldable pub stream : List ℕ → List ℕ
stream x = joined x (count x)

-- what reading an image into a buffer of that many bytes answers: a fault before a buffer that is too short
unfoldable pub read_of : Option Fault → ℕ → ℕ → Result ℕ ReadError
read_of (Some f) n room = Err (Faulty f)
read_of None n room = elim (ltb room n) [ true ↦ Err ShortBuffer | false ↦ Ok n ]

unfoldable pub read : ℕ → List ℕ → ℕ → Result ℕ ReadError
read max x room = read_of (fault max x) (length (stream x)) room

-- the buffer after it: the stream in front where the answer is one, its other bytes untouched
unfoldable pub read_into : Result ℕ ReadError → List ℕ → List ℕ → List ℕ
read_into (Ok n) s buffer = s ++ drop n buffer
read_into (Err (Faulty f)) s buffer = buffer
read_into (Err ShortBuffer) s buffer = buffer

-- what opening an image answers, where the buffer has room for the payloads of as many blocks as are allowed; the buffer after it
unfoldable pub opened : Option Fault → ℕ → Result ℕ Fault
opened (Some f) n = Err f
opened None n = Ok n

unfoldable pub opened_into : Result ℕ Fault → List ℕ → List ℕ → List ℕ
opened_into (Ok n) s buffer = s ++ drop n buffer
opened_into (Err f) s buffer = buffer

-- the fault of a refusal, and Length where there is none
abbrev pub fault_of : Result ℕ Fault → Fault
fault_of (Err f) = f
fault_of (Ok n) = Length

-- Writing ---------------------------------------------------------------------

-- piece k of a stream, and how many there are
unfoldable pub piece : List ℕ → ℕ → List ℕ
piece s k = take payload_size (drop (payload_size * k) s)

abbrev pub pieces : ℕ → ℕ
pieces n = (n + 503) / payload_size

-- the first k blocks that hold a stream; all of them are its image
unfoldable pub image_of : List ℕ → ℕ → List ℕ
image_of s zero = []
image_of s (suc k) = image_of s k ++ block_of k (piece s k)

unfoldable pub image : List ℕ → List ℕ
image s = image_of s (pieces (length s))

-- a stream's length where max blocks are allowed: 1 to 504 × most
unfoldable pub stream_right : ℕ → ℕ → Bool
stream_right max n = leb 1 n && leb n (payload_size * most max)

-- what writing a stream of n bytes into an output of that many bytes answers
unfoldable pub write : ℕ → ℕ → ℕ → Result ℕ WriteError
write max n room =
    elim (stream_right max n) [
      | false ↦ Err WrongLength
      | true ↦ elim (ltb room (block_size * pieces n)) [ true ↦ Err ShortOutput | false ↦ Ok (pieces n) ]
    ]

-- the output after it: the image in front where the answer is a number of blocks, its other bytes untouched
unfoldable pub written_into : Result ℕ WriteError → List ℕ → List ℕ → List ℕ
written_into (Ok n) s out = image s ++ drop (block_size * n) out
written_into (Err WrongLength) s out = out
written_into (Err ShortOutput) s out = out

-- 01's numbers of a program image's faults, and of a table image's -------------------

abbrev pub program_number : Fault → ℕ
program_number Length = program_length
program_number Sum = block_sums
program_number Layout = block_layout

abbrev pub table_number : Fault → ℕ
table_number Length = table_length
table_number Sum = table_block
table_number Layout = table_block
