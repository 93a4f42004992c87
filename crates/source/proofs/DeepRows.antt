-- "Nesting apart" (02 §1, 17): texts that nest deeper than 01's levels by one, each way, are written, from their bytes to their streams; the checker says 5.
use Rattle.std.specs.Prelude.{ℕ, ◌*◌, ◌≤◌, ◌≡◌, refl, List, [], ◌∷◌, length}
use Rattle.std.proofs.Math.Option.{some}
use Rattle.std.proofs.Common.{le-ltb}
use Rattle.types.specs.Stages.{on, asked, given}
use Rattle.types.specs.Limits.{program_blocks}
use Rattle.block.specs.Block.{block_size}
use Rattle.tokens.specs.Tokens.{Word.w_struct, Word.w_if, Word.w_then, Word.w_fix, Word.w_bool, Sign.lpar, Sign.rpar, Sign.lbrace, Sign.rbrace}
use Rattle.tokens.specs.Tokens.{Sign.colon, Sign.semicolon, Sign.assign, Sign.bang, Token, Token.word, Token.sign, Token.name}
use Rattle.syntax.specs.Syntax.{TypeName.bool_type, Var.id as one_id, Exp.negation, Exp.variable, Stat.if_then, Stat.update, Stats.no_stats, Stats.stats}
use Rattle.syntax.specs.Syntax.{Par.par, Step.step, Struct.struct, Defs.last_struct, Item.execution, Item.fixpoint, Sched.last_item}
use Rattle.syntax.specs.Syntax.{Program as Derivation, Program.program}
use Rattle.syntax.specs.Letters.{A, a, s}
use Rattle.source.specs.TextReader.{of_program, of_derivation, outcome}
use Rattle.source.specs.Streamed.{streamed}
use Rattle.source.proofs.Laws.StreamedLaws.{Reads, streams}
use Rattle.program.specs.Unfold.{encodings}
use Rattle.tokens.specs.Unfold.{scanning}
use Rattle.syntax.specs.Unfold.{reading}
use Rattle.meaning.specs.Unfold.{meanings, holding}

-- an expression of 17 levels: struct A(a:Bool){s{a:=!!!!!!!!!!!!!!!!a;}}s
unfoldable pub text_nots : List ℕ
text_nots =
    115 ∷ 116 ∷ 114 ∷ 117 ∷ 99 ∷ 116 ∷ 32 ∷ 65 ∷ 40 ∷ 97 ∷ 58 ∷ 66 ∷ 111 ∷ 111 ∷ 108 ∷ 41 ∷ 123 ∷ 115 ∷ 123 ∷ 97 ∷ 58 ∷ 61 ∷ 33 ∷ 33 ∷ 33 ∷ 33 ∷ 33 ∷ 33 ∷
    33 ∷ 33 ∷ 33 ∷ 33 ∷ 33 ∷ 33 ∷ 33 ∷ 33 ∷ 33 ∷ 33 ∷ 97 ∷ 59 ∷ 125 ∷ 125 ∷ 115 ∷ []

unfoldable pub tokens_nots : List Token
tokens_nots =
    word w_struct ∷ name A ∷ sign lpar ∷ name a ∷ sign colon ∷ word w_bool ∷ sign rpar ∷ sign lbrace ∷ name s ∷ sign lbrace ∷ name a ∷ sign assign ∷ sign
    bang ∷ sign bang ∷ sign bang ∷ sign bang ∷ sign bang ∷ sign bang ∷ sign bang ∷ sign bang ∷ sign bang ∷ sign bang ∷ sign bang ∷ sign bang ∷ sign bang ∷
    sign bang ∷ sign bang ∷ sign bang ∷ name a ∷ sign semicolon ∷ sign rbrace ∷ sign rbrace ∷ name s ∷ []

unfoldable pub derivation_nots : Derivation
derivation_nots =
    program (last_struct (struct A (par a bool_type ∷ []) (step s (stats (update (one_id a) (negation (negation (negation (negation (negation (negation
    (negation (negation (negation (negation (negation (negation (negation (negation (negation (negation (variable (one_id a))))))))))))))))))) no_stats) ∷
    []))) (last_item (execution s))

pub nots_read : Reads text_nots tokens_nots derivation_nots
unfolding text_nots tokens_nots derivation_nots scanning reading
nots_read = (refl, refl)

pub nots_text : (out : List ℕ) → block_size * program_blocks ≤ length out → streamed (outcome text_nots out) ≡ some
    (1 ∷ 1 ∷ 2 ∷ 1 ∷ 0 ∷ 1 ∷ 3 ∷ 1 ∷ 0 ∷ 16 ∷ 16 ∷ 16 ∷ 16 ∷ 16 ∷ 16 ∷ 16 ∷ 16 ∷ 16 ∷ 16 ∷ 16 ∷ 16 ∷ 16 ∷ 16 ∷ 16 ∷ 16 ∷ 18 ∷ 1 ∷ 0 ∷ 1 ∷ 1 ∷ 0 ∷ [])
unfolding text_nots derivation_nots streamed of_derivation of_program holding meanings encodings on asked given
nots_text out h = streams text_nots out refl nots_read (rw (le-ltb (length out) (block_size * program_blocks) h) refl)

-- nine ifs, each in the one before: struct A(a:Bool){s{if a then{..}}}s
unfoldable pub text_ifs : List ℕ
text_ifs =
    115 ∷ 116 ∷ 114 ∷ 117 ∷ 99 ∷ 116 ∷ 32 ∷ 65 ∷ 40 ∷ 97 ∷ 58 ∷ 66 ∷ 111 ∷ 111 ∷ 108 ∷ 41 ∷ 123 ∷ 115 ∷ 123 ∷ 105 ∷ 102 ∷ 32 ∷ 97 ∷ 32 ∷ 116 ∷ 104 ∷ 101 ∷
    110 ∷ 123 ∷ 105 ∷ 102 ∷ 32 ∷ 97 ∷ 32 ∷ 116 ∷ 104 ∷ 101 ∷ 110 ∷ 123 ∷ 105 ∷ 102 ∷ 32 ∷ 97 ∷ 32 ∷ 116 ∷ 104 ∷ 101 ∷ 110 ∷ 123 ∷ 105 ∷ 102 ∷ 32 ∷ 97 ∷ 32 ∷
    116 ∷ 104 ∷ 101 ∷ 110 ∷ 123 ∷ 105 ∷ 102 ∷ 32 ∷ 97 ∷ 32 ∷ 116 ∷ 104 ∷ 101 ∷ 110 ∷ 123 ∷ 105 ∷ 102 ∷ 32 ∷ 97 ∷ 32 ∷ 116 ∷ 104 ∷ 101 ∷ 110 ∷ 123 ∷ 105 ∷
    102 ∷ 32 ∷ 97 ∷ 32 ∷ 116 ∷ 104 ∷ 101 ∷ 110 ∷ 123 ∷ 105 ∷ 102 ∷ 32 ∷ 97 ∷ 32 ∷ 116 ∷ 104 ∷ 101 ∷ 110 ∷ 123 ∷ 105 ∷ 102 ∷ 32 ∷ 97 ∷ 32 ∷ 116 ∷ 104 ∷ 101 ∷
    110 ∷ 123 ∷ 125 ∷ 125 ∷ 125 ∷ 125 ∷ 125 ∷ 125 ∷ 125 ∷ 125 ∷ 125 ∷ 125 ∷ 125 ∷ 115 ∷ []

unfoldable pub tokens_ifs : List Token
tokens_ifs =
    word w_struct ∷ name A ∷ sign lpar ∷ name a ∷ sign colon ∷ word w_bool ∷ sign rpar ∷ sign lbrace ∷ name s ∷ sign lbrace ∷ word w_if ∷ name a ∷ word
    w_then ∷ sign lbrace ∷ word w_if ∷ name a ∷ word w_then ∷ sign lbrace ∷ word w_if ∷ name a ∷ word w_then ∷ sign lbrace ∷ word w_if ∷ name a ∷ word
    w_then ∷ sign lbrace ∷ word w_if ∷ name a ∷ word w_then ∷ sign lbrace ∷ word w_if ∷ name a ∷ word w_then ∷ sign lbrace ∷ word w_if ∷ name a ∷ word
    w_then ∷ sign lbrace ∷ word w_if ∷ name a ∷ word w_then ∷ sign lbrace ∷ word w_if ∷ name a ∷ word w_then ∷ sign lbrace ∷ sign rbrace ∷ sign rbrace ∷
    sign rbrace ∷ sign rbrace ∷ sign rbrace ∷ sign rbrace ∷ sign rbrace ∷ sign rbrace ∷ sign rbrace ∷ sign rbrace ∷ sign rbrace ∷ name s ∷ []

unfoldable pub derivation_ifs : Derivation
derivation_ifs =
    program (last_struct (struct A (par a bool_type ∷ []) (step s (stats (if_then (variable (one_id a)) (stats (if_then (variable (one_id a)) (stats
    (if_then (variable (one_id a)) (stats (if_then (variable (one_id a)) (stats (if_then (variable (one_id a)) (stats (if_then (variable (one_id a)) (stats
    (if_then (variable (one_id a)) (stats (if_then (variable (one_id a)) (stats (if_then (variable (one_id a)) no_stats) no_stats)) no_stats)) no_stats))
    no_stats)) no_stats)) no_stats)) no_stats)) no_stats)) no_stats) ∷ []))) (last_item (execution s))

pub ifs_read : Reads text_ifs tokens_ifs derivation_ifs
unfolding text_ifs tokens_ifs derivation_ifs scanning reading
ifs_read = (refl, refl)

pub ifs_text : (out : List ℕ) → block_size * program_blocks ≤ length out → streamed (outcome text_ifs out) ≡ some
    (1 ∷ 1 ∷ 2 ∷ 1 ∷ 0 ∷ 1 ∷ 1 ∷ 18 ∷ 1 ∷ 0 ∷ 1 ∷ 1 ∷ 18 ∷ 1 ∷ 0 ∷ 1 ∷ 1 ∷ 18 ∷ 1 ∷ 0 ∷ 1 ∷ 1 ∷ 18 ∷ 1 ∷ 0 ∷ 1 ∷ 1 ∷ 18 ∷ 1 ∷ 0 ∷ 1 ∷ 1 ∷ 18 ∷ 1 ∷ 0 ∷ 1 ∷ 1
    ∷ 18 ∷ 1 ∷ 0 ∷ 1 ∷ 1 ∷ 18 ∷ 1 ∷ 0 ∷ 1 ∷ 1 ∷ 18 ∷ 1 ∷ 0 ∷ 0 ∷ 1 ∷ 1 ∷ 0 ∷ [])
unfolding text_ifs derivation_ifs streamed of_derivation of_program holding meanings encodings on asked given
ifs_text out h = streams text_ifs out refl ifs_read (rw (le-ltb (length out) (block_size * program_blocks) h) refl)

-- nine fixpoints, each in the one before: struct A(){s{}}Fix(..Fix(s)..)
unfoldable pub text_fixes : List ℕ
text_fixes =
    115 ∷ 116 ∷ 114 ∷ 117 ∷ 99 ∷ 116 ∷ 32 ∷ 65 ∷ 40 ∷ 41 ∷ 123 ∷ 115 ∷ 123 ∷ 125 ∷ 125 ∷ 70 ∷ 105 ∷ 120 ∷ 40 ∷ 70 ∷ 105 ∷ 120 ∷ 40 ∷ 70 ∷ 105 ∷ 120 ∷ 40 ∷
    70 ∷ 105 ∷ 120 ∷ 40 ∷ 70 ∷ 105 ∷ 120 ∷ 40 ∷ 70 ∷ 105 ∷ 120 ∷ 40 ∷ 70 ∷ 105 ∷ 120 ∷ 40 ∷ 70 ∷ 105 ∷ 120 ∷ 40 ∷ 70 ∷ 105 ∷ 120 ∷ 40 ∷ 115 ∷ 41 ∷ 41 ∷ 41 ∷
    41 ∷ 41 ∷ 41 ∷ 41 ∷ 41 ∷ 41 ∷ []

unfoldable pub tokens_fixes : List Token
tokens_fixes =
    word w_struct ∷ name A ∷ sign lpar ∷ sign rpar ∷ sign lbrace ∷ name s ∷ sign lbrace ∷ sign rbrace ∷ sign rbrace ∷ word w_fix ∷ sign lpar ∷ word w_fix ∷
    sign lpar ∷ word w_fix ∷ sign lpar ∷ word w_fix ∷ sign lpar ∷ word w_fix ∷ sign lpar ∷ word w_fix ∷ sign lpar ∷ word w_fix ∷ sign lpar ∷ word w_fix ∷
    sign lpar ∷ word w_fix ∷ sign lpar ∷ name s ∷ sign rpar ∷ sign rpar ∷ sign rpar ∷ sign rpar ∷ sign rpar ∷ sign rpar ∷ sign rpar ∷ sign rpar ∷ sign rpar
    ∷ []

unfoldable pub derivation_fixes : Derivation
derivation_fixes =
    program (last_struct (struct A ([]) (step s no_stats ∷ []))) (last_item (fixpoint (last_item (fixpoint (last_item (fixpoint (last_item (fixpoint
    (last_item (fixpoint (last_item (fixpoint (last_item (fixpoint (last_item (fixpoint (last_item (fixpoint (last_item (execution s))))))))))))))))))))

pub fixes_read : Reads text_fixes tokens_fixes derivation_fixes
unfolding text_fixes tokens_fixes derivation_fixes scanning reading
fixes_read = (refl, refl)

pub fixes_text : (out : List ℕ) → block_size * program_blocks ≤ length out → streamed (outcome text_fixes out) ≡ some
    (1 ∷ 0 ∷ 1 ∷ 0 ∷ 0 ∷ 1 ∷ 3 ∷ 1 ∷ 3 ∷ 1 ∷ 3 ∷ 1 ∷ 3 ∷ 1 ∷ 3 ∷ 1 ∷ 3 ∷ 1 ∷ 3 ∷ 1 ∷ 3 ∷ 1 ∷ 3 ∷ 1 ∷ 1 ∷ 0 ∷ [])
unfolding text_fixes derivation_fixes streamed of_derivation of_program holding meanings encodings on asked given
fixes_text out h = streams text_fixes out refl fixes_read (rw (le-ltb (length out) (block_size * program_blocks) h) refl)
