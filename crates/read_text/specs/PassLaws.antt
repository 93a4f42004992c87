-- Each way through the passes over a text (02 §1): 15, 16, or on behind its derivation; and through the whole entry.
use Rattle.std.specs.Prelude.{ℕ, ◌<◌, ◌≤◌, ◌≡◌, refl, Bool, true, false, not, List, [], length}
use Rattle.std.proofs.Common.{sym, ◌∙◌}
use Rattle.std.proofs.Math.Path.{ap}
use Rattle.std.proofs.lemmas.List.Edits.{sets}
use Rattle.std.proofs.lemmas.Bool.{not-true, not-false}
use Rattle.types.specs.Numbers.{no_token, no_derivation}
use Rattle.types.specs.Stages.{Stage.stopped as refused}
use Rattle.tokens.specs.Scanning.{lex}
use Rattle.tokens.specs.Marking.{marks, parts, kinds_in}
use Rattle.text_shape.specs.Shape.{Shape.shape, derived}
use Rattle.text_shape.specs.RoleMarks.{role_codes, placed}
use Rattle.source.specs.Source.{max_text, Outcome}
use Rattle.source.specs.TextReader.{of_tokens, outcome, text_number, text_blocks, text_output}
use Rattle.read_text.specs.Ending.{Ending, Ending.stopped, ended, answer, left, ending}
use Rattle.read_text.specs.EndingLaws.{answered, output_left}
use Rattle.read_text.specs.Roled.{Roled, stream_of}
use Rattle.read_text.specs.TextLaws.{too_long, not_long, no_parts, underived, roled, roled_reads}
use Rattle.read_text.specs.ReadLaws.{roled_ends}
use Rattle.read_text.specs.declared.Answer.{Answer}
use Rattle.text_shape.specs.CodeNames.{first_defs_code}

-- what an answer and an output say of how reading ends
abbrev pub Ends : Answer → List ℕ → List ℕ → Ending → Type 0
Ends a o out e = (a ≡ answer e) × (o ≡ left e out)

-- a refusal, with the output as it was
stops : (n : ℕ) (out : List ℕ) (o : Outcome) → o ≡ refused n → (a : Answer) → a ≡ answer (stopped n) → Ends a out out (ending o)
unfolding left ending
stops n out o e a f = rw (e, f) (refl, refl)

module _ (x ks₀ ks : List ℕ) (long : length ks₀ ≡ length x) (p : Bool) (e : p ≡ parts x) (f : ks ≡ sets ks₀ 0 (marks x)) (out : List ℕ) where
  pub way_15 : not p ≡ true → (a : Answer) → a ≡ answer (stopped no_token) → Ends a out out (ending (of_tokens (lex 0 x) out))
  way_15 h a g = stops no_token out (of_tokens (lex 0 x) out) (no_parts x out (sym (not-true p h) ∙ e)) a g

  module _ (parted : not p ≡ false) (cs : List ℕ) (q : Bool) (d : q ≡ derived (kinds_in ks))
      (k : cs ≡ placed ks (role_codes (shape first_defs_code []) (kinds_in ks))) where
    there : true ≡ parts x
    there = sym (not-false p parted) ∙ e

    pub way_16 : not q ≡ true → (a : Answer) → a ≡ answer (stopped no_derivation) → Ends a out out (ending (of_tokens (lex 0 x) out))
    way_16 h a g = stops no_derivation out (of_tokens (lex 0 x) out) (underived x ks₀ ks long there f (sym (not-true q h) ∙ d) out) a g

    module _ (h : not q ≡ false) where
      pub roled_there : Roled x cs
      roled_there = roled x ks₀ ks long there f cs k (sym (not-false q h) ∙ d)

      on : ended (stream_of x cs) out ≡ ending (of_tokens (lex 0 x) out)
      unfolding roled_there
      on = roled_ends x cs out roled_there ∙ ap ending (sym (roled_reads x ks₀ ks long there f cs k (sym (not-false q h) ∙ d) out))

      pub way_on : (a : Answer) (o : List ℕ) → Ends a o out (ended (stream_of x cs) out) → Ends a o out (ending (of_tokens (lex 0 x) out))
      way_on a o g = rw on at g

-- The entry --------------------------------------------------------------------------------------

module _ (x out o : List ℕ) (a : Answer) where
  abbrev Told : Type 0
  Told = ((a.number ≡ text_number x out) × (a.blocks ≡ text_blocks x out)) × (o ≡ text_output x out)

  told : Ends a o out (ending (outcome x out)) → Told
  unfolding text_number text_blocks text_output
  told (e, f) =
      let h = answered (outcome x out) in
      ((ap (λ b. b.number) e ∙ h.0, ap (λ b. b.blocks) e ∙ h.1), f ∙ output_left (outcome x out) out)

  pub read_on : length x ≤ max_text → Ends a o out (ending (of_tokens (lex 0 x) out)) → Told
  read_on h e = told (rw (not_long x out h) e)

pub read_long : (x out : List ℕ) (a : Answer) → max_text < length x → a ≡ answer (stopped no_token)
    → ((a.number ≡ text_number x out) × (a.blocks ≡ text_blocks x out)) × (out ≡ text_output x out)
unfolding Told
read_long x out a h e = told x out out a (stops no_token out (outcome x out) (too_long x out h) a e)
