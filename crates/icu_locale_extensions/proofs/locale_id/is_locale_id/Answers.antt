use Rattle.std.proofs.Common.{◌≡◌, ◌↔◌, ℕ, Bool, false, IsTrue, IfOk, List, Err, refl, sym, subst, inl, inr}
use Rattle.icu_locale_core.specs.declared.parse_error.ParseError.{ParseError}
use Rattle.icu_locale_core.specs.declared.parse_error.ParseError.TheVariants.{Memory}
use Rattle.icu_locale_extensions.specs.Grammar.{Spells}
use Rattle.icu_locale_extensions.specs.Syntaxes.{IsOkUnlessMemory}
use Rattle.icu_locale_extensions.specs.declared.identifier.LocaleIdentifier.{LocaleIdentifier}
use Rattle.icu_locale_extensions.proofs.locale_id.is_locale_id.Goals.{in-Ok, in-Err-Memory, in-Err-InvalidLanguage, in-Err-InvalidSubtag}
use Rattle.icu_locale_extensions.proofs.locale_id.is_locale_id.Goals as goal

-- a text that is refused spells nothing
nothing : (t : List ℕ) (e : ParseError) → ¬ (e ≡ Memory) → ((x : LocaleIdentifier) → Spells t x → IsOkUnlessMemory (Err e) x)
    → IsTrue false ↔ ((x : LocaleIdentifier) × Spells t x)
nothing t e other only = (
  (λ never. absurd (cc never)),
  (λ z. elim (only z.0 z.1) [ inl read ↦ absurd (cc read) | inr memory ↦ absurd (other (cc memory)) ]),
)

pub returns-clause-told : goal.returns-clause-told
returns-clause-told c =
    let P = λ (told : Bool). IsTrue told ↔ ((x : LocaleIdentifier) × Spells c.args.text.now x) in
    elim c.match-try_from_str.branch [
      | in-Ok w ↦ subst (λ r. IfOk r P) (sym w.result-is) ((λ yes. (w.in-Ok.field-0, w.in-Ok.ensures.found.1)), (λ z. refl))
      | in-Err-Memory w ↦ subst (λ r. IfOk r P) (sym w.result-is) tt
      | in-Err-InvalidLanguage w ↦ subst (λ r. IfOk r P) (sym w.result-is)
          (nothing c.args.text.now _ (λ e. cc e) w.in-Err-InvalidLanguage.ensures.only)
      | in-Err-InvalidSubtag w ↦ subst (λ r. IfOk r P) (sym w.result-is)
          (nothing c.args.text.now _ (λ e. cc e) w.in-Err-InvalidSubtag.ensures.only)
    ]
