use Rattle.std.proofs.Common.{rules, ◌≡◌, subst, true, ℕ, List, [], ◌∷◌, length, ◌==◌, refl, arith, Ok}
use Rattle.std.proofs.lemmas.Bool.Decides.{nat_tests}
use Rattle.icu_locale_full_names.specs.FullNames.{GivesFullName}
use Rattle.icu_locale_names.specs.LanguageChains.{chain_of}
use Rattle.icu_locale_names.specs.LanguageNames.{in_locale, display_of}
use Rattle.icu_locale_names.specs.declared.name_chain.NameChain.TheVariants.{Light}
use Rattle.icu_locale_names.specs.declared.options.LanguageDisplay.TheVariants.{Dialect}
use Rattle.uses.proofs.labels.label_of.Goals as goal

none_left : (places : List (ℕ × ℕ)) → (length places == 0) ≡ true → places ≡ []
none_left [] none = refl
none_left (p ∷ places) none = absurd (grind (arith, nat_tests))

-- no part is raw
pub returns-then-is_empty : goal.returns-then-is_empty
returns-then-is_empty g c =
    let answers = in_locale (g.P.DataProvider.name c.args.provider.now) (g.P.DataProvider.menu c.args.provider.now)
    (g.P.DataProvider.essentials c.args.provider.now) c.args.preferences.locale in
    let dialect : display_of c.default.result ≡ Dialect = search rules in
    let name = c.given_names_are_written.ensures answers (chain_of Light) Dialect c.args.names.now c.args.locale.now c.in_ok-name.name
    (subst (λ display. GivesFullName answers (chain_of Light) display c.args.names.now c.args.locale.now (Ok c.in_ok-name.name)) dialect c.in_ok-name.ensures) in
    let none : c.in_ok-name.name.raw_spans ≡ [] = none_left c.in_ok-name.name.raw_spans (search (rules, c.is_empty.ensures, c.raw_spans.ensures)) in
    record { pieces = name.0; is = name.1; text = name.2; named = none }
