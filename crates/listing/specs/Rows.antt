-- Rows that pin what no law does: 01's listing of P, a program with every form of a line, and an input of no bytes ('Bench rows').
use Rattle.std.specs.Prelude.{ℕ, ◌≡◌, refl, List, [], ◌∷◌}
use Prim.Native.String.{String}
use Rattle.std.proofs.Common.{arith, ap, ◌∙◌}
use Rattle.types.specs.Types.{code}
use Rattle.types.specs.Values.{default, word_int, value_of}
use Rattle.blocks.specs.Images.{length_right, fault, image}
use Rattle.program.specs.Encoding.{flat, op_code, var_code}
use Rattle.program.specs.Reader.{read}
use Rattle.verdict.specs.Verdict.{of_read, of_image, checked}
use Rattle.verdict.proofs.VerdictLaws.{checked_image}
use Rattle.verdict.proofs.Rows.{checking}
use Rattle.verdict.proofs.Rows.{P}
use Rattle.text.specs.Listing.{digits, decimal, column, tail, row}
use Rattle.text.specs.CommandText.{shown, command_text}
use Rattle.text.specs.Rows.{bytes, line_bytes}
use Rattle.step_lines.specs.Lines.{command_line, command_lines, step_lines, structs_lines, program_lines}
use Rattle.listing.specs.Listings.{head, listing, listing_of}

-- 01's example
unfoldable pub P-lines : List String
P-lines =
    "audala 1 1 8 2"
    ∷ "0 0 0 push this"
    ∷ "0 0 1 rd 0"
    ∷ "0 0 2 push this"
    ∷ "0 0 3 rd 1"
    ∷ "0 0 4 rd 0"
    ∷ "0 0 5 op 41"
    ∷ "0 0 6 push this"
    ∷ "0 0 7 wr 0"
    ∷ []

-- struct 0 has no parameters; struct 1 has an Int, a Nat and a reference to itself. Its step 5: int := -1; nat := 4294967295; if (not true)
-- construct struct 0; ref := null; int := int + int
unfoldable pub all_forms : List ℕ
all_forms =
    2 ∷ 0 ∷ 3 ∷ 0 ∷ 1 ∷ 17 ∷ 0 ∷ 1 ∷ 5 ∷ 5
    ∷ 3 ∷ 1 ∷ 0 ∷ 19 ∷ 255 ∷ 255 ∷ 255 ∷ 255
    ∷ 3 ∷ 1 ∷ 1 ∷ 20 ∷ 255 ∷ 255 ∷ 255 ∷ 255
    ∷ 1 ∷ 16 ∷ 21 ∷ 1 ∷ 1 ∷ 4 ∷ 0
    ∷ 3 ∷ 1 ∷ 2 ∷ 22 ∷ 17
    ∷ 3 ∷ 1 ∷ 0 ∷ 41 ∷ 18 ∷ 1 ∷ 0 ∷ 18 ∷ 1 ∷ 0
    ∷ 1 ∷ 1 ∷ 5 ∷ []

unfoldable pub all_forms_lines : List String
all_forms_lines =
    "audala 2 1 20 3"
    ∷ "1 5 0 push 0 -1"
    ∷ "1 5 1 push this"
    ∷ "1 5 2 wr 0"
    ∷ "1 5 3 push 1 4294967295"
    ∷ "1 5 4 push this"
    ∷ "1 5 5 wr 1"
    ∷ "1 5 6 push 2 1"
    ∷ "1 5 7 not"
    ∷ "1 5 8 if 1"
    ∷ "1 5 9 cons 0"
    ∷ "1 5 10 push 17 1"
    ∷ "1 5 11 push this"
    ∷ "1 5 12 wr 2"
    ∷ "1 5 13 push this"
    ∷ "1 5 14 rd 0"
    ∷ "1 5 15 push this"
    ∷ "1 5 16 rd 0"
    ∷ "1 5 17 op 41"
    ∷ "1 5 18 push this"
    ∷ "1 5 19 wr 0"
    ∷ []

-- numbers as text; all that makes a listing of a stream: what an `unfolding` line opens by one name
numerals : Type 0
unfolding flat code op_code var_code digits decimal column tail row
numerals = Unit {0}

listings : Type 0
unfolding numerals listing checking head program_lines structs_lines step_lines command_lines command_line command_text shown
listings = Unit {0}

stream_row : listing (of_read (read P)) ≡ line_bytes P-lines
unfolding P P-lines bytes line_bytes listings
stream_row = refl

forms_row : listing (of_read (read all_forms)) ≡ line_bytes all_forms_lines
unfolding all_forms all_forms_lines bytes line_bytes listings default word_int value_of
forms_row = refl

-- P's image gives 01's listing, byte for byte
pub P-row : listing_of (image P) ≡ line_bytes P-lines
unfolding P listing_of
P-row = ap listing (checked_image P (omega arith) (omega arith)) ∙ stream_row

-- and so does the image of a program with every form of a line
pub all_forms_row : listing_of (image all_forms) ≡ line_bytes all_forms_lines
unfolding all_forms listing_of
all_forms_row = ap listing (checked_image all_forms (omega arith) (omega arith)) ∙ forms_row

-- an input of no bytes
empty_row : listing_of [] ≡ line_bytes ("refused 1" ∷ [])
unfolding bytes line_bytes listing_of listing checked of_image fault length_right digits decimal tail row
empty_row = refl
