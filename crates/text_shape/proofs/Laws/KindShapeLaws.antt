-- Kinds are enough: a token of its kind does what a token does. So the shape over the kinds of some tokens ends where they are read as a derivation.
use Rattle.std.specs.Prelude.{ℕ, ◌≡◌, refl, Bool, true, false, ◌||◌, List, [], ◌∷◌, map, ◌↔◌, get_or, eqb}
use Rattle.std.proofs.Common.{sym, ap, ◌∙◌}
use Rattle.std.proofs.lemmas.Bool.{false≢true}
use Rattle.std.proofs.Math.Option.{Option, none, some}
use Rattle.program.specs.Tree.{Op.op_eq, Op.op_ne, Op.op_le, Op.op_ge, Op.op_lt, Op.op_gt, Op.op_mul, Op.op_div, Op.op_rem, Op.op_add, Op.op_sub, Op.op_and}
use Rattle.program.specs.Tree.{Op.op_or}
use Rattle.tokens.specs.Tokens.{Word.w_struct, Word.w_if, Word.w_then, Word.w_null, Word.w_this, Word.w_fix, Word.w_int, Word.w_nat, Word.w_bool, Word.w_string}
use Rattle.tokens.specs.Tokens.{Word.w_true, Word.w_false}
use Rattle.tokens.specs.Tokens.{Sign.lpar, Sign.rpar, Sign.lbrace, Sign.rbrace, Sign.comma, Sign.colon, Sign.semicolon, Sign.assign, Sign.dot, Sign.bang, Token}
use Rattle.tokens.specs.Tokens.{Token.word, Token.sign, Token.op, Token.name, Token.int, Token.nat}
use Rattle.syntax.specs.Syntax.{Program}
use Rattle.syntax.specs.Bracketing.{Derives}
use Rattle.syntax.specs.Expecting.{word_number, sign_number, on_word, on_sign, on_name, on_op, less, on_less, literal_word, on_literal, type_word, on_type_word}
use Rattle.syntax.specs.Expecting.{on_type}
use Rattle.syntax.proofs.Laws.CompleteLaws.{derived_exact}
use Rattle.syntax.specs.Places.{Row.in_program, Row.in_fix}
use Rattle.syntax.specs.Places.{State, State.at_defs, State.at_struct, State.at_struct_open, State.at_pars, State.at_par, State.at_colon, State.at_par_type}
use Rattle.syntax.specs.Places.{State.behind_par, State.at_steps_open, State.at_steps, State.at_step_open}
use Rattle.syntax.specs.Places.{State.at_stats, State.behind_name, State.at_dot_name, State.behind_dot_name, State.at_local, State.at_assign}
use Rattle.syntax.specs.Places.{State.at_construct, State.at_semicolon, State.at_then_open}
use Rattle.syntax.specs.Places.{State.want, State.after, State.behind_id, State.at_dot_id, State.behind_dot_id, State.at_args, State.at_null_type}
use Rattle.syntax.specs.Places.{State.at_item, State.behind_execution, State.at_step_name, State.at_fix_open, State.behind_item, State.dead}
use Rattle.syntax.specs.Reading.{step, run, whole, ended, read}
use Rattle.tokens.specs.Kinds.{word_kind, sign_kind, op_kind, kind}
use Rattle.text_shape.specs.Shape.{defs_code, code_of, open_body, open_place, open_row, open_of, Shape, Shape.shape, shape_of, on_exp, on_item, past_item}
use Rattle.text_shape.specs.Shape.{acts, act, acted, acted_below, moved, move, samples, sample, moves, at_end, derived}
use Rattle.text_shape.proofs.Laws.ShapeLaws.{step_shape}
use Rattle.text_shape.specs.declared.Act.{Act}
use Rattle.text_shape.specs.declared.Act.TheVariants.{Go, Open, Below, Stop}
use Rattle.text_shape.specs.CodeNames.{at_stats_code, behind_name_code, at_dot_name_code, behind_dot_name_code, at_local_code, at_assign_code}
use Rattle.text_shape.specs.CodeNames.{at_semicolon_code, at_then_open_code, want_code, after_code, behind_id_code, at_dot_id_code}
use Rattle.text_shape.specs.CodeNames.{behind_dot_id_code, at_null_type_code, at_item_code, behind_execution_code, at_step_name_code}
use Rattle.text_shape.specs.CodeNames.{at_fix_open_code, behind_item_code}

sample_acts : (t : Token) → acts (sample (kind t)) ≡ acts t
unfolding acts on_exp on_item past_item samples sample kind word_kind sign_kind op_kind word_number sign_number on_word on_sign on_name on_op less on_less
    literal_word on_literal type_word on_type_word on_type
sample_acts (word w_struct) = refl
sample_acts (word w_if) = refl
sample_acts (word w_then) = refl
sample_acts (word w_null) = refl
sample_acts (word w_this) = refl
sample_acts (word w_fix) = refl
sample_acts (word w_int) = refl
sample_acts (word w_nat) = refl
sample_acts (word w_bool) = refl
sample_acts (word w_string) = refl
sample_acts (word w_true) = refl
sample_acts (word w_false) = refl
sample_acts (sign lpar) = refl
sample_acts (sign rpar) = refl
sample_acts (sign lbrace) = refl
sample_acts (sign rbrace) = refl
sample_acts (sign comma) = refl
sample_acts (sign colon) = refl
sample_acts (sign semicolon) = refl
sample_acts (sign assign) = refl
sample_acts (sign dot) = refl
sample_acts (sign bang) = refl
sample_acts (op op_eq) = refl
sample_acts (op op_ne) = refl
sample_acts (op op_le) = refl
sample_acts (op op_ge) = refl
sample_acts (op op_lt) = refl
sample_acts (op op_gt) = refl
sample_acts (op op_mul) = refl
sample_acts (op op_div) = refl
sample_acts (op op_rem) = refl
sample_acts (op op_add) = refl
sample_acts (op op_sub) = refl
sample_acts (op op_and) = refl
sample_acts (op op_or) = refl
sample_acts (name x) = refl
sample_acts (int p ds) = refl
sample_acts (nat ds) = refl

sample_act : (q : ℕ) (t : Token) → act q (sample (kind t)) ≡ act q t
unfolding act
sample_act q t = ap (λ l. get_or l q Stop) (sample_acts t)

sample_moved : (a : Act) (st : List ℕ) (t : Token) → moved a st (sample (kind t)) ≡ moved a st t
unfolding moved acted_below
sample_moved (Go q) st t = refl
sample_moved (Open q r) st t = refl
sample_moved Below [] t = refl
sample_moved Below (r ∷ st) t = ap (λ a. acted a st) (sample_act r t)
sample_moved Stop st t = refl

pub sample_move : (s : Shape) (t : Token) → move s (sample (kind t)) ≡ move s t
unfolding move
sample_move (shape q st) t = sample_moved (act q (sample (kind t))) st t ∙ ap (λ a. moved a st t) (sample_act q t)

-- the shape of what is read over some tokens is told by their kinds
run_shape : (s : State) (ts : List Token) → shape_of (run s ts) ≡ moves (shape_of s) (map kind ts)
unfolding run moves
run_shape s [] = refl
run_shape s (t ∷ ts) = run_shape (step s t) ts ∙ ap (λ x. moves x (map kind ts)) (step_shape s t ∙ sym (sample_move (shape_of s) t))

-- The end ----------------------------------------------------------------------------------------

unfoldable pub is_some : Option Program → Bool
is_some none = false
is_some (some c) = true

-- a state behind no item
inner : (q : ℕ) (st : List ℕ) → (eqb q behind_execution_code || eqb q behind_item_code) ≡ false → at_end (shape q st) ≡ false
unfolding at_end
inner q [] e = e
inner q (r ∷ st) e = refl

end_shape : (s : State) → at_end (shape_of s) ≡ is_some (ended s)
unfolding at_end code_of open_of defs_code open_row ended whole is_some
end_shape (at_defs []) = refl
end_shape (at_defs (d ∷ ds)) = refl
end_shape (at_struct ds) = refl
end_shape (at_struct_open ds n) = refl
end_shape (at_pars ds n) = refl
end_shape (at_par ds n ps) = refl
end_shape (at_colon ds n ps x) = refl
end_shape (at_par_type ds n ps x) = refl
end_shape (behind_par ds n ps q) = refl
end_shape (at_steps_open ds n ps) = refl
end_shape (at_steps ds n ps ts) = refl
end_shape (at_step_open ds n ps ts x) = refl
end_shape (at_stats l c) = inner at_stats_code (open_body c) refl
end_shape (behind_name l c x) = inner behind_name_code (open_body c) refl
end_shape (at_dot_name l c xs) = inner at_dot_name_code (open_body c) refl
end_shape (behind_dot_name l c xs y) = inner behind_dot_name_code (open_body c) refl
end_shape (at_local l c a) = inner at_local_code (open_body c) refl
end_shape (at_assign l c a x) = inner at_assign_code (open_body c) refl
end_shape (at_construct l c x) = refl
end_shape (at_semicolon l c x es) = inner at_semicolon_code (open_body c) refl
end_shape (at_then_open l c e) = inner at_then_open_code (open_body c) refl
end_shape (want p) = inner want_code (open_place p) refl
end_shape (after p e) = inner after_code (open_place p) refl
end_shape (behind_id p x) = inner behind_id_code (open_place p) refl
end_shape (at_dot_id p xs) = inner at_dot_id_code (open_place p) refl
end_shape (behind_dot_id p xs y) = inner behind_dot_id_code (open_place p) refl
end_shape (at_args p x) = refl
end_shape (at_null_type p) = inner at_null_type_code (open_place p) refl
end_shape (at_item l r) = inner at_item_code (open_row r) refl
end_shape (behind_execution l (in_program d) x) = refl
end_shape (behind_execution l (in_fix m r) x) = refl
end_shape (at_step_name l r x) = inner at_step_name_code (open_row r) refl
end_shape (at_fix_open l r) = inner at_fix_open_code (open_row r) refl
end_shape (behind_item l (in_program d) i) = refl
end_shape (behind_item l (in_fix m r) i) = refl
end_shape dead = refl

derived_read : (ts : List Token) → derived (map kind ts) ≡ is_some (read ts)
unfolding derived read code_of open_of defs_code
derived_read ts = ap at_end (sym (run_shape (at_defs []) ts)) ∙ end_shape (run (at_defs []) ts)

-- 16 is decided: the kinds are derived exactly where some derivation yields the tokens
pub derived_derives : (ts : List Token) → (derived (map kind ts) ≡ true) ↔ ((c : Program) × Derives ts c)
unfolding is_some
derived_derives ts = (there, back)
  where
    there : derived (map kind ts) ≡ true → (c : Program) × Derives ts c
    there e = go (read ts) refl (sym (derived_read ts) ∙ e)
      where
        go : (o : Option Program) → read ts ≡ o → is_some o ≡ true → (c : Program) × Derives ts c
        go none q f = absurd (false≢true f)
        go (some c) q f = (c, (derived_exact ts c).0 q)

    back : (c : Program) × Derives ts c → derived (map kind ts) ≡ true
    back (c, d) = derived_read ts ∙ ap is_some ((derived_exact ts c).1 d)
