-- What stands at a place, by its first bytes: one law for each way.
use Prim.Native.Nat.{ℕ, zero, suc, ◌+◌, ◌-◌, ◌≤◌, ◌<◌}
use native.Mathlib.Omega.{arith}
use Rattle.std.proofs.Common.{add-one, sym, ◌∙◌, get_or-drop, eqb-true, eq-eqb, ne_eqb}
use Rattle.std.specs.Prelude.{◌≡◌, Bool, true, false, ◌&&◌, ◌||◌, length, get_or, Option, Some, None, option_map}
use Rattle.std.proofs.Math.Path.{refl, ap}
use mathlib.Core.List.{List, [], ◌∷◌}
use Rattle.std.proofs.Math.ListN.{take, drop}
use Rattle.std.proofs.Math.Seq.{drop-drop}
use Rattle.std.proofs.Math.Dec.{eqb}
use Rattle.types.proofs.Laws.ListLaws.{drop_next, eqb_sym}
use Rattle.tokens.proofs.Laws.ByteLaws.{both_true}
use Rattle.program.specs.Tree.{Op.op_ne, Op.op_le, Op.op_ge, Op.op_lt, Op.op_gt, Op.op_and, Op.op_or}
use Rattle.tokens.specs.Tokens.{Sign.colon, Sign.assign, Sign.bang, Token, Token.sign, Token.op, Token.int, Token.nat, nat_end_byte, letter, digit}
use Rattle.tokens.specs.Tokens.{name_byte, blank, op_spelling, sign_spelling, spelling}
use Rattle.tokens.specs.Scanning.{Front, Front.token, Front.nothing, span, begins, closing, named, doubles, singles, signs, find_sign}
use Rattle.tokens.specs.Scanning.{Class.letters, Class.digits, class, polarity, signed, opens, nat_front, comment_front, after_star, other_front}
use Rattle.tokens.specs.Scanning.{front_of, front}
use Rattle.tokens.specs.TokenNumbers.{sign_number}
use Rattle.tokens.specs.Kinds.{sign_kind, op_kind, kind}
use Rattle.tokens.specs.Marking.{spot_of, signs_digit, followed}
use Rattle.lexer.specs.RunLaws.{inside}
use Rattle.tokens.specs.Spot.{Spot}
use Rattle.tokens.specs.Unfold.{sign_scan}
use Rattle.tokens.specs.Bytes.{bang_byte, percent_byte, ampersand_byte, lpar_byte, rpar_byte, star, plus_byte, comma_byte, minus_byte, dot_byte}
use Rattle.tokens.specs.Bytes.{slash, colon_byte, semicolon_byte, less_byte, equals_byte, more_byte, lbrace_byte, bar_byte, rbrace_byte}
use Rattle.tokens.specs.KindNames.{colon_kind, assign_kind, bang_kind, ne_kind, le_kind, ge_kind, lt_kind, gt_kind, and_kind, or_kind}
use Rattle.tokens.specs.KindNames.{int_kind, nat_kind}

-- the byte behind a place
pub behind_byte : (s : List ℕ) (i n : ℕ) → get_or (drop (i + 1) s) n 0 ≡ get_or s (i + 1 + n) 0
behind_byte s i n = get_or-drop (i + 1) s n 0

module _ (s : List ℕ) (at : ℕ) where
  abbrev b : ℕ
  b = get_or s at 0

  abbrev c : ℕ
  c = get_or s (at + 1) 0

  abbrev rest : List ℕ
  rest = drop (at + 1) s

  first_behind : get_or rest 0 0 ≡ c
  first_behind = behind_byte s at 0 ∙ ap (λ n. get_or s n 0) (omega arith)

  -- Names, Nat literals ------------------------------------------------------------------------

  -- the bytes up to the end of a run behind the first
  pub front_taken : (e : ℕ) → at < length s → at + 1 ≤ e → take (e - at) (drop at s) ≡ b ∷ take (e - (at + 1)) rest
  front_taken e l h = rw (drop_next s at l, let m : e - at ≡ suc (e - (at + 1)) = omega arith in m) refl

  pub name_spot : (e k : ℕ) → at < length s → e ≡ at + 1 + span name_byte rest → k ≡ kind (named (take (e - at) (drop at s)))
      → Some (k, e - (at + 1)) ≡ spot_of (front_of letters b rest)
  unfolding spot_of front_of
  name_spot e k l h f =
      let m : e - (at + 1) ≡ span name_byte rest = omega arith in
      rw (f, front_taken e l (omega arith), m) refl

  module _ (e : ℕ) (h : e ≡ at + 1 + span digit rest) where
    last_byte : get_or rest (span digit rest) 0 ≡ get_or s e 0
    last_byte = behind_byte s at (span digit rest) ∙ ap (λ n. get_or s n 0) (sym h)

    pub nat_spot : get_or s e 0 ≡ nat_end_byte → Some (nat_kind, e - at) ≡ spot_of (front_of digits b rest)
    unfolding spot_of front_of nat_front kind
    nat_spot f =
        let m : e - at ≡ suc (span digit rest) = omega arith in
        let g : front_of digits b rest ≡ token (nat (b ∷ take (span digit rest) rest)) (suc (span digit rest)) =
        rw (eq-eqb (get_or rest (span digit rest) 0) nat_end_byte (last_byte ∙ f), nat_front) refl in
        rw m (ap spot_of (sym g))

    pub nat_stray : (get_or s e 0 ≡ nat_end_byte → ⊥) → None ≡ spot_of (front_of digits b rest)
    unfolding spot_of front_of nat_front
    nat_stray f =
        let g : front_of digits b rest ≡ nothing = rw (ne_eqb (get_or rest (span digit rest) 0) nat_end_byte (λ h. f (sym last_byte ∙ h)), nat_front) refl in
        ap spot_of (sym g)

  -- Comments, Int literals, signs -------------------------------------------------------------------

  opens_here : opens b rest ≡ (eqb b slash && eqb c star)
  unfolding opens
  opens_here = ap (λ n. eqb b slash && eqb n star) first_behind

  signed_here : signed b rest ≡ signs_digit b c
  unfolding signed
  signed_here = ap (λ n. (eqb b plus_byte || eqb b minus_byte) && digit n) first_behind

  star_passed : after_star rest ≡ drop (at + 1 + 1) s
  unfolding after_star
  star_passed = past rest ∙ drop-drop 1 (at + 1) s
    where
      past : (u : List ℕ) → after_star u ≡ drop 1 u
      past [] = refl
      past (x ∷ u) = refl

  pub comment_spot : {r : Spot} {n : ℕ} → (eqb b slash && eqb c star) ≡ true → n ≡ closing (drop (at + 1 + 1) s) → r ≡ spot_of (comment_front n)
      → r ≡ spot_of (other_front b rest)
  unfolding other_front
  comment_spot {r} {n} e f g =
      let h : other_front b rest ≡ comment_front n = rw (opens_here ∙ e, other_front, star_passed) (ap comment_front (sym f)) in
      g ∙ ap spot_of (sym h)

  module _ (no : (eqb b slash && eqb c star) ≡ false) where
    pub int_spot : (e : ℕ) → signs_digit b c ≡ true → e ≡ at + 1 + span digit rest → Some (int_kind, e - (at + 1)) ≡ spot_of (other_front b rest)
    unfolding other_front spot_of kind
    int_spot e f h =
        let m : e - (at + 1) ≡ span digit rest = omega arith in
        let g : other_front b rest ≡ token (int (polarity b) (take (span digit rest) rest)) (span digit rest) =
        rw (opens_here ∙ no, other_front, signed_here ∙ f) refl in
        rw m (ap spot_of (sym g))

    -- two bytes tell a sign
    sign_told : (u : List ℕ) → find_sign signs (b ∷ u) ≡ find_sign signs (b ∷ get_or u 0 0 ∷ [])
    unfolding find_sign signs doubles singles begins spelling sign_spelling op_spelling
    sign_told [] = refl
    sign_told (x ∷ u) = refl

    pub sign_spot : {r : Spot} → signs_digit b c ≡ false → r ≡ spot_of (find_sign signs (b ∷ c ∷ [])) → r ≡ spot_of (other_front b rest)
    unfolding other_front
    sign_spot f g =
        let h : other_front b rest ≡ find_sign signs (b ∷ c ∷ []) =
        rw (opens_here ∙ no, other_front, signed_here ∙ f) (sign_told rest ∙ ap (λ n. find_sign signs (b ∷ n ∷ [])) first_behind) in
        g ∙ ap spot_of (sym h)

  -- By the first byte --------------------------------------------------------------------------------

  module _ (l : at < length s) where
    front_here : front (drop at s) ≡ front_of (class b) b rest
    unfolding front
    front_here = rw (drop_next s at l) refl

    -- whatever stands behind the byte
    pub alone_spot : {r : Spot} → ((t : List ℕ) → r ≡ spot_of (front (b ∷ t))) → r ≡ spot_of (front (drop at s))
    alone_spot f = rw (drop_next s at l) (f rest)

    pub letter_spot : {r : Spot} → letter b ≡ true → r ≡ spot_of (front_of letters b rest) → r ≡ spot_of (front (drop at s))
    unfolding class
    letter_spot e g = g ∙ rw (front_here, e, class) refl

    pub digit_spot : {r : Spot} → letter b ≡ false → digit b ≡ true → r ≡ spot_of (front_of digits b rest) → r ≡ spot_of (front (drop at s))
    unfolding class
    digit_spot e f g = g ∙ rw (front_here, e, f, class) refl

    pub blank_spot : letter b ≡ false → digit b ≡ false → blank b ≡ true → Some (0, 0) ≡ spot_of (front (drop at s))
    unfolding class front_of spot_of
    blank_spot e f h = rw (front_here, e, f, h, class) refl

    pub other_spot : {r : Spot} → letter b ≡ false → digit b ≡ false → blank b ≡ false → r ≡ spot_of (other_front b rest) → r ≡ spot_of (front (drop at s))
    unfolding class front_of
    other_spot e f h g = g ∙ rw (front_here, e, f, h, class) refl

-- a place inside what was taken before
pub comment_none : (n : ℕ) → n ≡ 0 → None ≡ spot_of (comment_front n)
unfolding comment_front spot_of
comment_none n e = rw e refl

pub comment_some : (n : ℕ) → (n ≡ 0 → ⊥) → Some (0, n + 1) ≡ spot_of (comment_front n)
unfolding comment_front spot_of
comment_some zero e = absurd (e refl)
comment_some (suc n) e = rw add-one refl

-- Signs ------------------------------------------------------------------------------------------------

-- none of some bytes, as a match's last arm has it
abbrev pub Misses : List ℕ → ℕ → Type 0
Misses [] b = Unit {0}
Misses (k ∷ ks) b = (Misses ks b) × (b ≡ k → ⊥)

-- the first bytes of the signs, from the highest down
abbrev pub firsts : List ℕ
firsts =
    rbrace_byte ∷ bar_byte ∷ lbrace_byte ∷ more_byte ∷ equals_byte ∷ less_byte ∷ semicolon_byte ∷ colon_byte ∷ slash ∷ dot_byte ∷ minus_byte ∷ comma_byte
    ∷ plus_byte ∷ star ∷ rpar_byte ∷ lpar_byte ∷ ampersand_byte ∷ percent_byte ∷ bang_byte ∷ []

-- none of some signs stands there
abbrev Passed : List Token → List ℕ → Type 0
Passed [] x = Unit {0}
Passed (t ∷ ts) x = (begins (spelling t) x ≡ false) × (Passed ts x)

none_of : (ts : List Token) (x : List ℕ) → Passed ts x → find_sign ts x ≡ nothing
unfolding find_sign
none_of [] x h = refl
none_of (t ∷ ts) x h = rw (h.0, find_sign) (none_of ts x h.1)

pub sign_none : (b c : ℕ) → Misses firsts b → None ≡ spot_of (find_sign signs (b ∷ c ∷ []))
unfolding signs doubles singles begins spelling sign_spelling op_spelling spot_of
sign_none b c (
  (
    (
      (
        (
          (
            (
              ((((((((((((u, n_bang), n_percent), n_amp), n_lpar), n_rpar), n_star), n_plus), n_comma), n_minus), n_dot), n_slash), n_colon),
              n_semi,
            ),
            n_less,
          ),
          n_equals,
        ),
        n_more,
      ),
      n_lbrace,
    ),
    n_bar,
  ),
  n_rbrace,
) =
    ap spot_of (sym (none_of signs (b ∷ c ∷ []) (
      off colon_byte (equals_byte ∷ []) n_colon,
      (
        off bang_byte (equals_byte ∷ []) n_bang,
        (
          off less_byte (equals_byte ∷ []) n_less,
          (
            off more_byte (equals_byte ∷ []) n_more,
            (
              off ampersand_byte (ampersand_byte ∷ []) n_amp,
              (
                off bar_byte (bar_byte ∷ []) n_bar,
                (
                  off lpar_byte [] n_lpar,
                  (
                    off rpar_byte [] n_rpar,
                    (
                      off lbrace_byte [] n_lbrace,
                      (
                        off rbrace_byte [] n_rbrace,
                        (
                          off comma_byte [] n_comma,
                          (
                            off colon_byte [] n_colon,
                            (
                              off semicolon_byte [] n_semi,
                              (
                                off dot_byte [] n_dot,
                                (
                                  off bang_byte [] n_bang,
                                  (
                                    off equals_byte [] n_equals,
                                    (
                                      off less_byte [] n_less,
                                      (
                                        off more_byte [] n_more,
                                        (
                                          off star [] n_star,
                                          (
                                            off slash [] n_slash,
                                            (off percent_byte [] n_percent, (off plus_byte [] n_plus, (off minus_byte [] n_minus, tt))),
                                          ),
                                        ),
                                      ),
                                    ),
                                  ),
                                ),
                              ),
                            ),
                          ),
                        ),
                      ),
                    ),
                  ),
                ),
              ),
            ),
          ),
        ),
      ),
    )))
  where
    off : (k : ℕ) (u : List ℕ) → (b ≡ k → ⊥) → begins (k ∷ u) (b ∷ c ∷ []) ≡ false
    off k u o = rw (ne_eqb k b (λ e. o (sym e))) refl

-- a byte and the one behind it: two tests of one fact
by_second : (c d two : ℕ) (one : Option ℕ) (f : Bool → Spot) → f true ≡ Some (two, 1) → f false ≡ option_map (λ k. (k, 0)) one
    → followed c d two one ≡ f (eqb d c)
unfolding followed
by_second c d two one f p q = go (eqb d c) refl
  where
    go : (t : Bool) → eqb d c ≡ t → followed c d two one ≡ f t
    go true e = rw (eqb_sym c d, e, followed) (sym p)
    go false e = rw (eqb_sym c d, e, followed) (sym q)

either : Front → Front → Bool → Spot
either x y t = spot_of (elim (t && true) [ true ↦ x | false ↦ y ])

module _ (c : ℕ) where
  pub bang_spot : followed c equals_byte ne_kind (Some bang_kind) ≡ spot_of (find_sign signs (bang_byte ∷ c ∷ []))
  unfolding either sign_scan spot_of kind sign_kind sign_number op_kind
  bang_spot = by_second c equals_byte ne_kind (Some bang_kind) (either (token (op op_ne) 1) (token (sign bang) 0)) refl refl

  pub and_spot : followed c ampersand_byte and_kind None ≡ spot_of (find_sign signs (ampersand_byte ∷ c ∷ []))
  unfolding either sign_scan spot_of kind sign_kind sign_number op_kind
  and_spot = by_second c ampersand_byte and_kind None (either (token (op op_and) 1) nothing) refl refl

  pub colon_spot : followed c equals_byte assign_kind (Some colon_kind) ≡ spot_of (find_sign signs (colon_byte ∷ c ∷ []))
  unfolding either sign_scan spot_of kind sign_kind sign_number op_kind
  colon_spot = by_second c equals_byte assign_kind (Some colon_kind) (either (token (sign assign) 1) (token (sign colon) 0)) refl refl

  pub less_spot : followed c equals_byte le_kind (Some lt_kind) ≡ spot_of (find_sign signs (less_byte ∷ c ∷ []))
  unfolding either sign_scan spot_of kind sign_kind sign_number op_kind
  less_spot = by_second c equals_byte le_kind (Some lt_kind) (either (token (op op_le) 1) (token (op op_lt) 0)) refl refl

  pub more_spot : followed c equals_byte ge_kind (Some gt_kind) ≡ spot_of (find_sign signs (more_byte ∷ c ∷ []))
  unfolding either sign_scan spot_of kind sign_kind sign_number op_kind
  more_spot = by_second c equals_byte ge_kind (Some gt_kind) (either (token (op op_ge) 1) (token (op op_gt) 0)) refl refl

  pub or_spot : followed c bar_byte or_kind None ≡ spot_of (find_sign signs (bar_byte ∷ c ∷ []))
  unfolding either sign_scan spot_of kind sign_kind sign_number op_kind
  or_spot = by_second c bar_byte or_kind None (either (token (op op_or) 1) nothing) refl refl

-- what opens a comment has a byte behind it
pub opens_inside : (s : List ℕ) (i : ℕ) (b : ℕ) → (eqb b slash && eqb (get_or s i 0) star) ≡ true → i < length s
opens_inside s i b e = inside s i (let h = eqb-true (get_or s i 0) star (both_true (eqb b slash) (eqb (get_or s i 0) star) e).1 in omega (arith, h))
