-- What reading and writing answer holds (01, 'Blocks'), and reading gives back what was written.
use Rattle.std.specs.Prelude.{ℕ, suc, ◌*◌, ◌-◌, ◌≤◌, ◌≡◌, refl, Bool, true, false, length, ltb, Option, Some, None, Result, Ok, Err}
use Rattle.std.proofs.Common.{arith, sym, ◌∙◌, subst, ltb-true, ltb-false}
use Rattle.std.proofs.Math.Path.{ap}
use mathlib.Core.List.{List, ◌++◌}
use Rattle.std.proofs.Math.ListN.{drop}
use Rattle.types.specs.Reflects.{Reflects, Reflects.holds, Reflects.fails, reflects_iff}
use Rattle.block.specs.Block.{block_size, payload_size}
use Rattle.blocks.specs.Images.{most, count, fault, stream, image, pieces, read_of, read, read_into, write}
use Rattle.blocks.proofs.ImageLaws.{count_length, stream_length, used_last}
use Rattle.blocks.proofs.ImageRoundTrip.{image_accepted, image_stream}
use Rattle.blocks.proofs.ImageWays.{read_done}
use Rattle.blocks.proofs.WriteWays.{stream_exact, write_done}
use Rattle.blocks.specs.Answers.{ReadSays, StreamRight, WriteSays}
use Rattle.blocks.specs.Faults.{Says}
use Rattle.blocks.proofs.FaultLaws.{fault_says}
use Rattle.block.specs.declared.Fault.{Fault}
use Rattle.blocks.specs.declared.ReadError.{ReadError}
use Rattle.blocks.specs.declared.ReadError.TheVariants.{Short as ShortBuffer}
use Rattle.blocks.specs.declared.WriteError.TheVariants.{Length as WrongLength, Short as ShortOutput}

pub read_says : (max : ℕ) (x : List ℕ) (room : ℕ) → ReadSays max x room (read max x room)
unfolding read read_of
read_says max x room = go (fault max x) refl
  where
    n : ℕ
    n = length (stream x)

    fits : fault max x ≡ None → (t : Bool) → ltb room n ≡ t → ReadSays max x room (elim t [ true ↦ Err ShortBuffer | false ↦ Ok n ])
    fits e true p = (e, ltb-true room n p)
    fits e false p = (e, refl, ltb-false room n p)

    go : (r : Option Fault) → fault max x ≡ r → ReadSays max x room (read_of r n room)
    go (Some f) e = e
    go None e = fits e (ltb room n) refl

pub write_says : (max n room : ℕ) → WriteSays max n room (write max n room)
unfolding write
write_says max n room = go (stream_exact max n)
  where
    fits : StreamRight max n → (t : Bool) → ltb room (block_size * pieces n) ≡ t
        → WriteSays max n room (elim t [ true ↦ Err ShortOutput | false ↦ Ok (pieces n) ])
    fits r true p = (r, ltb-true room (block_size * pieces n) p)
    fits r false p = (r, refl, ltb-false room (block_size * pieces n) p)

    go : {t : Bool} → Reflects (StreamRight max n) t
        → WriteSays max n room
        (elim t [
          | false ↦ Err WrongLength
          | true ↦ elim (ltb room (block_size * pieces n)) [ true ↦ Err ShortOutput | false ↦ Ok (pieces n) ]
        ])
    go (fails n) = n
    go (holds h) = fits h (ltb room (block_size * pieces n)) refl

-- the stream of an accepted image is no longer than the payloads of as many blocks as are allowed
pub stream_most : (max : ℕ) (x : List ℕ) → fault max x ≡ None → length (stream x) ≤ payload_size * most max
unfolding stream
stream_most max x e =
    let says : Says max x None = subst (Says max x) e (fault_says max x) in
    let n = count x in
    let whole = count_length max x says.0 in
    let k : suc (n - 1) ≡ n = omega (arith, says.0.from_one) in
    let u = used_last n x whole says.1 (n - 1) k in
    omega (arith, stream_length n x whole says.1 (n - 1) k, says.0.to_most)

-- so a buffer for that many bytes is never too short, nor an output for that many blocks
pub read_fits : (max : ℕ) (x : List ℕ) (room : ℕ) → fault max x ≡ None → payload_size * most max ≤ room
    → read max x room ≡ Ok (length (stream x))
read_fits max x room e h = sym (read_done max x room (length (stream x)) e refl (omega (arith, stream_most max x e)))

pub write_fits : (max n room : ℕ) → StreamRight max n → block_size * most max ≤ room → write max n room ≡ Ok (pieces n)
write_fits max n room right h =
    sym (write_done max n room true (sym ((reflects_iff (stream_exact max n)).1 right)) refl (omega (arith, right.0, right.1)))

-- reading what was written gives the stream back, in front of a buffer that is otherwise as it was
module _ (max : ℕ) (s : List ℕ) (right : StreamRight max (length s)) (room : ℕ) (fits : length s ≤ room) where
  pub read_written : read max (image s) room ≡ Ok (length s)
  read_written =
      let back = image_stream s right.0 in
      sym (read_done max (image s) room (length s) (image_accepted s right.0 max right.1) (ap length (sym back)) fits)

  pub read_written_into : (buffer : List ℕ)
      → read_into (read max (image s) room) (stream (image s)) buffer ≡ s ++ drop (length s) buffer
  unfolding read_into
  read_written_into buffer =
      ap (λ (r : Result ℕ ReadError). read_into r (stream (image s)) buffer) read_written
      ∙ ap (λ (t : List ℕ). t ++ drop (length s) buffer) (image_stream s right.0)
