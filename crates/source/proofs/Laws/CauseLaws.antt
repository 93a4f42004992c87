-- 17 holds of a derived text exactly where its derivation has one of the causes (02 §1).
use Rattle.std.specs.Prelude.{ℕ, ◌≡◌, refl, ◌↔◌, List}
use Rattle.std.proofs.Common.{arith, sym, subst, ◌∙◌}
use Rattle.std.proofs.Math.Option.{Option, none, some}
use Rattle.program.specs.Tree.{Program}
use Rattle.syntax.specs.Syntax.{Program as Derivation}
use Rattle.meaning.specs.Means.{Means}
use Rattle.meaning.specs.Meant.{meant}
use Rattle.meaning.specs.Holds.{Holds}
use Rattle.meaning.proofs.Laws.MeantLaws.{means_exact, means_one}
use Rattle.meaning.proofs.Laws.UnmeantLaws.{unmeant_none}
use Rattle.meaning.proofs.Laws.CauseLaws.{unmeant_exactly}
use Rattle.meaning.proofs.Laws.ExceedsLaws.{exceeds_none}
use Rattle.meaning.proofs.Laws.WithinLaws.{exceeds_exactly}
use Rattle.source.specs.Source.{Derived, Reading, NoProgram}
use Rattle.source.specs.Causes.{Cause, Cause.unmeant, Cause.too_much}
use Rattle.source.proofs.Laws.SourceLaws.{derived_one}

pub no_program_exactly : {x : List ℕ} {c : Derivation} → Derived x c → (NoProgram x) ↔ (Cause c)
no_program_exactly {x} {c} d = (λ n. forth n (meant c) refl, back)
  where
    forth : NoProgram x → (o : Option Program) → meant c ≡ o → Cause c
    forth n none e =
        unmeant ((unmeant_exactly c).0 (λ p m. let q : none ≡ some p = sym e ∙ (means_exact c p).1 m in let z : ◌≡◌ {A = ℕ} 0 1 = cc in omega (arith, z)))
    forth n (some p) e =
        let m = (means_exact c p).0 e in
        too_much m ((exceeds_exactly m).0 (λ h. n p (record { derivation = c; derived = d; means = m }) h))

    meaning_of : (p : Program) → Reading x p → Means c p
    meaning_of p r = subst (λ b. Means b p) (derived_one r.derived d) r.means

    back : Cause c → NoProgram x
    back (unmeant u) p r h = unmeant_none u (meaning_of p r)
    back (too_much {p = q} m e) p r h = exceeds_none q e (subst Holds (means_one (meaning_of p r) m) h)
