use Rattle.std.proofs.Common.{inr, refl, sym, subst}
use Rattle.icu_locale_extensions.specs.declared.identifier.LocaleIdentifier.{LocaleIdentifier}
use Rattle.icu_locale_values.specs.Refusals.{IsWholeRefusal}
use Rattle.icu_locale_values.specs.Whole.{IsWhole, whole_rules}
use Rattle.icu_locale_key.specs.Whole.{IsWholeKeyRefusal}
use Rattle.icu_locale_key.proofs.AtOnce.{refusal_of_canonical}
use Rattle.icu_locale_key.proofs.WholeKeys.{refusal_of_whole}
use Rattle.icu_locale_key.proofs.whole.key_of_whole.Goals as goal

-- without a whole canonical form
pub returns-in-Err-canonicalize-clause-refused : goal.returns-in-Err-canonicalize-clause-refused
returns-in-Err-canonicalize-clause-refused c =
    let by = whole_rules c.args.canonicalizer.now in
    let e = c.in-Err-canonicalize.refusal in
    refusal_of_whole by c.args.locale.now e (subst (λ (x : LocaleIdentifier). IsWholeRefusal by x e) c.in-Ok.ensures.same c.in-Err-canonicalize.ensures.refusal)

pub returns-in-Err-canonicalize-clause-there : goal.returns-in-Err-canonicalize-clause-there
returns-in-Err-canonicalize-clause-there c k is =
    let by = whole_rules c.args.canonicalizer.now in
    let e = c.in-Err-canonicalize.refusal in
    let why = refusal_of_whole by c.args.locale.now e
    (subst (λ (x : LocaleIdentifier). IsWholeRefusal by x e) c.in-Ok.ensures.same c.in-Err-canonicalize.ensures.refusal) in
    inr (c.whole_key_is_one.ensures.not_both by c.args.locale.now k e is why)

-- with the key that stays
pub returns-in-Ok-bring_canonical_to_stable_key-clause-key : goal.returns-in-Ok-bring_canonical_to_stable_key-clause-key
returns-in-Ok-bring_canonical_to_stable_key-clause-key c =
    let by = whole_rules c.args.canonicalizer.now in
    let canonical = c.canonicalize.new.locale in
    record {
      canonical = canonical;
      whole = subst (λ (x : LocaleIdentifier). IsWhole by x canonical) c.in-Ok.ensures.same c.in_default.ensures.canonical;
      key = c.bring_canonical_to_stable_key.new.id;
      stays = c.in-Ok-bring_canonical_to_stable_key.ensures.key;
      is = refl;
    }

-- the rules leave the identifier of a whole canonical form
pub bring_canonical_to_stable_key-requires : goal.bring_canonical_to_stable_key-requires
bring_canonical_to_stable_key-requires c = c.in_default.ensures.canonical.locale.id.last

-- where none stays
pub returns-in-Err-bring_canonical_to_stable_key-clause-refused : goal.returns-in-Err-bring_canonical_to_stable_key-clause-refused
returns-in-Err-bring_canonical_to_stable_key-clause-refused c =
    let by = whole_rules c.args.canonicalizer.now in
    let x = c.args.locale.now in
    let canonical = c.canonicalize.new.locale in
    let whole = subst (λ (x : LocaleIdentifier). IsWhole by x canonical) c.in-Ok.ensures.same c.in_default.ensures.canonical in
    subst (IsWholeKeyRefusal by x) (sym c.of_rules.ensures)
    (refusal_of_canonical by x c.in-Err-bring_canonical_to_stable_key.refusal canonical whole
    c.in-Err-bring_canonical_to_stable_key.ensures.refused)

pub returns-in-Err-bring_canonical_to_stable_key-clause-there : goal.returns-in-Err-bring_canonical_to_stable_key-clause-there
returns-in-Err-bring_canonical_to_stable_key-clause-there c k is =
    let by = whole_rules c.args.canonicalizer.now in
    let x = c.args.locale.now in
    let canonical = c.canonicalize.new.locale in
    let whole = subst (λ (x : LocaleIdentifier). IsWhole by x canonical) c.in-Ok.ensures.same c.in_default.ensures.canonical in
    let why = subst (IsWholeKeyRefusal by x) (sym c.of_rules.ensures)
    (refusal_of_canonical by x c.in-Err-bring_canonical_to_stable_key.refusal canonical whole
    c.in-Err-bring_canonical_to_stable_key.ensures.refused) in
    inr (c.whole_key_is_one.ensures.not_both by x k c.of_rules.result is why)
