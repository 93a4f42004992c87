-- The text of P gives P's stream (01, 'Bench rows'), whatever the output is that has room for it, and the empty text is refused.
use Rattle.std.specs.Prelude.{ℕ, ◌*◌, ◌≤◌, ◌≡◌, refl, false, List, [], ◌∷◌, length, ltb}
use Rattle.std.proofs.Common.{le-ltb}
use Rattle.types.specs.Limits.{program_blocks}
use Rattle.types.specs.Types.{Ty.int, Ty.ref, code}
use Rattle.types.specs.Numbers.{no_derivation}
use Rattle.types.specs.Stages.{Stage.went as written, Stage.stopped as refused, on, asked, given}
use Rattle.block.specs.Block.{block_size}
use Rattle.program.specs.Tree.{Var.par as parameter, Op.op_add, Expr.path, Expr.op, Stmt.update, Stmts.end, Stmts.next, Item.call, Items.stop}
use Rattle.program.specs.Tree.{Items.item, Program, size, items}
use Rattle.program.specs.Encoding.{enc_word, flat, op_code, var_code, enc_path, enc_expr, enc_exprs, enc_stmt, enc_stmts, enc_item, enc_items}
use Rattle.program.specs.Encoding.{enc_step, enc_program}
use Rattle.tokens.specs.Scanning.{lex}
use Rattle.tokens.specs.Rows.{text_P, P-lexed}
use Rattle.syntax.specs.Reading.{run, ended, read}
use Rattle.syntax.specs.Rows.{P-derived}
use Rattle.source.specs.TextReader.{of_program, of_derivation, of_tokens, outcome}
use Rattle.program.specs.Unfold.{encodings}
use Rattle.tokens.specs.Unfold.{scanning}
use Rattle.syntax.specs.Unfold.{reading}
use Rattle.meaning.specs.Unfold.{meanings, holding}

unfoldable pub program_P : Program
program_P =
    record {
      params = (int ∷ ref 0 ∷ []) ∷ [];
      steps = (record { name = 0; body = next (update (parameter 0) [] (op op_add (path (parameter 0) []) (path (parameter 1) (0 ∷ [])))) end } ∷ []) ∷ [];
      schedule = item (call 0) stop;
    }

-- its stream is 01's
pub stream_P : enc_program program_P ≡ 1 ∷ 2 ∷ 0 ∷ 16 ∷ 1 ∷ 0 ∷ 1 ∷ 3 ∷ 1 ∷ 0 ∷ 41 ∷ 18 ∷ 1 ∷ 0 ∷ 18 ∷ 2 ∷ 1 ∷ 0 ∷ 1 ∷ 1 ∷ 0 ∷ []
unfolding program_P enc_word flat op_code var_code enc_path enc_expr enc_exprs enc_stmt enc_stmts enc_item enc_items enc_step enc_program code size items
stream_P = refl

pub short_P : ltb 65536 (length text_P) ≡ false
unfolding text_P
short_P = refl

pub P-text : (out : List ℕ) → block_size * program_blocks ≤ length out → outcome text_P out ≡ written program_P
unfolding program_P outcome of_tokens of_derivation of_program holding meanings encodings on asked given
P-text out h = rw (short_P, P-lexed, P-derived, le-ltb (length out) (block_size * program_blocks) h) refl

-- an empty text has no derivation
pub empty_text : (out : List ℕ) → outcome [] out ≡ refused no_derivation
unfolding outcome of_tokens of_derivation lex run ended read on asked given
empty_text out = refl

-- The order, all with an output of no bytes: each text is refused with the first number whose condition holds --------------

-- #
pub token_first : outcome (35 ∷ []) [] ≡ refused 15
unfolding outcome of_tokens scanning on asked given
token_first = refl

-- s
pub derivation_next : outcome (115 ∷ []) [] ≡ refused 16
unfolding outcome of_tokens of_derivation scanning reading on asked given
derivation_next = refl

-- struct A() { } s
unfoldable pub text_uncalled : List ℕ
text_uncalled =
    115 ∷ 116 ∷ 114 ∷ 117 ∷ 99 ∷ 116 ∷ 32 ∷ 65 ∷ 40 ∷ 41 ∷ 32 ∷ 123 ∷ 32 ∷ 125 ∷ 32 ∷ 115 ∷ []

pub program_next : outcome text_uncalled [] ≡ refused 17
unfolding text_uncalled outcome of_tokens of_derivation of_program scanning reading meanings on asked given
program_next = refl

-- P itself
pub room_last : outcome text_P [] ≡ refused 13
unfolding outcome of_tokens of_derivation of_program holding meanings encodings on asked given
room_last = rw (short_P, P-lexed, P-derived) refl
