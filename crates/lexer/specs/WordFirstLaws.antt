-- The kind of a word or a name by its first letter: what begins as no word of the grammar does is a name, and nine words alone begin as they do.
use Rattle.std.specs.Prelude.{ℕ, ◌<◌, ◌≡◌, refl, Bool, true, false, List, [], ◌∷◌, get_or, drop}
use Rattle.std.proofs.Common.{arith, sym, ap, ◌∙◌, ne_eqb}
use Rattle.tokens.specs.Tokens.{Word, Word.w_struct, Word.w_if, Word.w_then, Word.w_null, Word.w_this, Word.w_fix, Word.w_int, Word.w_nat}
use Rattle.tokens.specs.Tokens.{Word.w_bool, Word.w_string, Word.w_true, Word.w_false, Token.word, Token.name, word_spelling}
use Rattle.tokens.specs.Tokens.{same}
use Rattle.tokens.specs.Scanning.{words, find_word, named}
use Rattle.tokens.specs.Kinds.{kind, word_kind}
use Rattle.lexer.specs.WordFirst.{one_word, lone, t_word}
use Rattle.lexer.specs.SpotLaws.{Misses}
use Rattle.tokens.specs.KindNames.{name_kind}

-- Names --------------------------------------------------------------------------------------------

-- the first letters of the words, from the highest down
abbrev pub letters : List ℕ
letters = 116 ∷ 115 ∷ 110 ∷ 105 ∷ 102 ∷ 83 ∷ 78 ∷ 73 ∷ 70 ∷ 66 ∷ []

-- none of some words stands there
abbrev Unlike : List Word → List ℕ → Type 0
Unlike [] s = Unit {0}
Unlike (w ∷ ws) s = (same (word_spelling w) s ≡ false) × (Unlike ws s)

none_of : (ws : List Word) (s : List ℕ) → Unlike ws s → find_word ws s ≡ name s
unfolding find_word
none_of [] s h = refl
none_of (w ∷ ws) s h = rw (h.0, find_word) (none_of ws s h.1)

differs : {b : ℕ} (a : ℕ) (u t : List ℕ) → (b ≡ a → ⊥) → same (a ∷ u) (b ∷ t) ≡ false
unfolding same
differs {b} a u t n = rw (same, ne_eqb a b (λ e. n (sym e))) refl

no_word : (b : ℕ) → Misses letters b → (t : List ℕ) → name_kind ≡ kind (find_word words (b ∷ t))
unfolding words word_spelling kind
no_word b ((((((((((u, n66), n70), n73), n78), n83), n102), n105), n110), n115), n116) t =
    ap kind (sym (none_of words (b ∷ t) (
      differs 115 (116 ∷ 114 ∷ 117 ∷ 99 ∷ 116 ∷ []) t n115,
      (
        differs 105 (102 ∷ []) t n105,
        (
          differs 116 (104 ∷ 101 ∷ 110 ∷ []) t n116,
          (
            differs 110 (117 ∷ 108 ∷ 108 ∷ []) t n110,
            (
              differs 116 (104 ∷ 105 ∷ 115 ∷ []) t n116,
              (
                differs 70 (105 ∷ 120 ∷ []) t n70,
                (
                  differs 73 (110 ∷ 116 ∷ []) t n73,
                  (
                    differs 78 (97 ∷ 116 ∷ []) t n78,
                    (
                      differs 66 (111 ∷ 111 ∷ 108 ∷ []) t n66,
                      (
                        differs 83 (116 ∷ 114 ∷ 105 ∷ 110 ∷ 103 ∷ []) t n83,
                        (differs 116 (114 ∷ 117 ∷ 101 ∷ []) t n116, (differs 102 (97 ∷ 108 ∷ 115 ∷ 101 ∷ []) t n102, tt)),
                      ),
                    ),
                  ),
                ),
              ),
            ),
          ),
        ),
      ),
    )))

-- One word by its first letter -------------------------------------------------------------------

-- letters that begin with k
begun : (k : ℕ) (s : List ℕ) → get_or s 0 0 ≡ k → 0 < k → s ≡ k ∷ drop 1 s
begun k [] e h = absurd (omega (arith, e))
begun k (b ∷ s) e h = rw e refl

-- the kind of a word or a name is the word's or a name's
choose : (q : Bool) (w : Word) (x : List ℕ) → elim q [ true ↦ word_kind w | false ↦ name_kind ] ≡ kind (elim q [ true ↦ word w | false ↦ name x ])
unfolding kind
choose true w x = refl
choose false w x = refl

lone_kind : (w : Word) (t : List ℕ) → 0 < lone w → one_word (word_spelling w) (word_kind w) (lone w ∷ t) ≡ kind (named (lone w ∷ t))
unfolding lone one_word named find_word words word_spelling same
lone_kind w_struct t h = choose (same (116 ∷ 114 ∷ 117 ∷ 99 ∷ 116 ∷ []) t) w_struct (115 ∷ t)
lone_kind w_if t h = choose (same (102 ∷ []) t) w_if (105 ∷ t)
lone_kind w_then t h = absurd (omega arith)
lone_kind w_null t h = choose (same (117 ∷ 108 ∷ 108 ∷ []) t) w_null (110 ∷ t)
lone_kind w_this t h = absurd (omega arith)
lone_kind w_fix t h = choose (same (105 ∷ 120 ∷ []) t) w_fix (70 ∷ t)
lone_kind w_int t h = choose (same (110 ∷ 116 ∷ []) t) w_int (73 ∷ t)
lone_kind w_nat t h = choose (same (97 ∷ 116 ∷ []) t) w_nat (78 ∷ t)
lone_kind w_bool t h = choose (same (111 ∷ 111 ∷ 108 ∷ []) t) w_bool (66 ∷ t)
lone_kind w_string t h = choose (same (116 ∷ 114 ∷ 105 ∷ 110 ∷ 103 ∷ []) t) w_string (83 ∷ t)
lone_kind w_true t h = absurd (omega arith)
lone_kind w_false t h = choose (same (97 ∷ 108 ∷ 115 ∷ 101 ∷ []) t) w_false (102 ∷ t)

-- The three that begin with a t ------------------------------------------------------------------

choose_t : (p q r : Bool) (x : List ℕ)
    → elim p [ true ↦ word_kind w_then | false ↦ elim q [ true ↦ word_kind w_this | false ↦ elim r [ true ↦ word_kind w_true | false ↦ name_kind ] ] ]
    ≡ kind (elim p [ true ↦ word w_then | false ↦ elim q [ true ↦ word w_this | false ↦ elim r [ true ↦ word w_true | false ↦ name x ] ] ])
unfolding kind
choose_t true q r x = refl
choose_t false true r x = refl
choose_t false false r x = choose r w_true x

t_kind : (t : List ℕ) → t_word (116 ∷ t) ≡ kind (named (116 ∷ t))
unfolding t_word one_word named find_word words word_spelling same
t_kind t = choose_t (same (104 ∷ 101 ∷ 110 ∷ []) t) (same (104 ∷ 105 ∷ 115 ∷ []) t) (same (114 ∷ 117 ∷ 101 ∷ []) t) (116 ∷ t)

-- By the first byte ------------------------------------------------------------------------------

module _ {r b : ℕ} (s : List ℕ) (e : b ≡ get_or s 0 0) where
  pub by_first : (w : Word) → b ≡ lone w → 0 < lone w → r ≡ one_word (word_spelling w) (word_kind w) s → r ≡ kind (named s)
  by_first w l h f =
      let g = begun (lone w) s (sym e ∙ l) h in
      f ∙ ap (one_word (word_spelling w) (word_kind w)) g ∙ lone_kind w (drop 1 s) h ∙ ap (λ x. kind (named x)) (sym g)

  pub by_t : b ≡ 116 → r ≡ t_word s → r ≡ kind (named s)
  by_t l f = let g = begun 116 s (sym e ∙ l) (omega arith) in f ∙ ap t_word g ∙ t_kind (drop 1 s) ∙ ap (λ x. kind (named x)) (sym g)

pub no_name : (s : List ℕ) → Misses letters (get_or s 0 0) → name_kind ≡ kind (named s)
unfolding named find_word words word_spelling same kind
no_name [] m = refl
no_name (b ∷ s) m = no_word b m s
