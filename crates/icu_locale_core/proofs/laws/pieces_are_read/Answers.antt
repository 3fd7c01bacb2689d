use Rattle.std.proofs.Common.{refl, ◌≡◌, ℕ, Bool, true, false, List, [], ◌∷◌, map, codes, Ok, Err, IfOk, if◌then◌else◌, ap, ◌∙◌, subst}
use Rattle.std.specs.List.{All, list_all, join_by}
use Rattle.std.proofs.lemmas.Bool.{and_parts}
use Rattle.std.proofs.lemmas.List.Elements.{All-nil, All-cons}
use Rattle.icu_locale_core.specs.Identifier.{IsIdentifier, pieces, Spells}
use Rattle.icu_locale_core.specs.Subtag.{is_language, is_variant, is_script, lowercase}
use Rattle.icu_locale_core.specs.declared.classes.Class.{Class}
use Rattle.icu_locale_core.specs.declared.classes.Class.TheVariants.{Language, Script, Region, Variant}
use Rattle.icu_locale_core.specs.declared.langid.LanguageIdentifier.{LanguageIdentifier}
use Rattle.icu_locale_core.specs.declared.parse_error.ParseError.TheVariants.{InvalidLanguage}
use Rattle.icu_locale_core.specs.inner.Class.{is_member}
use Rattle.icu_locale_core.specs.Cuts.{after_optional_subtag}
use Rattle.icu_locale_core.specs.Readings.{are_variants, read_rest, read_pieces, after_head}
use Rattle.icu_locale_core.proofs.Readings.{Reads, read_pieces-sound, read_pieces-complete}
use Rattle.icu_locale_core.proofs.Written.{Whole, whole_member, pieces-join}
use Rattle.icu_locale_core.proofs.laws.pieces_are_read.Goals as goal

part : (class : Class) (ps : List (List ℕ)) → All Whole (after_optional_subtag (is_member class) ps) → All Whole ps
part class [] all = all
part class (p ∷ ps) all = by (is_member class p) (whole_member class p) all
  where
    by : (h : Bool) → (h ≡ true → Whole p) → All Whole (if h then ps else p ∷ ps) → All Whole (p ∷ ps)
    by true whole all = All-cons Whole p ps (whole refl) all
    by false whole all = all

variants : (ps : List (List ℕ)) → list_all is_variant ps ≡ true → All Whole ps
variants [] all = All-nil Whole
variants (p ∷ ps) all =
    let both = and_parts (is_variant p) (list_all is_variant ps) all in
    All-cons Whole p ps (whole_member Variant p both.0) (variants ps both.1)

wholes : (p : List ℕ) (ps : List (List ℕ)) (x : LanguageIdentifier) → read_pieces (p ∷ ps) ≡ Ok x → All Whole (p ∷ ps)
wholes p ps x is = by (is_language p) (whole_member Language p) (are_variants (after_head ps)) refl is
  where
    by : (l : Bool) → (l ≡ true → Whole p) → (v : Bool) → are_variants (after_head ps) ≡ v
        → (if l then read_rest (lowercase p) ps else Err InvalidLanguage) ≡ Ok x → All Whole (p ∷ ps)
    by true whole true e is = All-cons Whole p ps (whole refl) (part Script ps (part Region (after_optional_subtag is_script ps)
        (variants (after_head ps) (and_parts (list_all is_variant (after_head ps)) _ e).0)))
    by true whole false e is = absurd (cc (rw e at is))
    by false whole v e is = absurd (cc is)

pub returns-clause-sound : goal.returns-clause-sound
returns-clause-sound c ps x is = by ps is (subst (λ r. IfOk r (λ y. IsIdentifier y × Reads ps y)) is (read_pieces-sound ps))
  where
    by : (ps : List (List ℕ)) → read_pieces ps ≡ Ok x → IsIdentifier x × Reads ps x → IsIdentifier x × ((t : List ℕ) × ((pieces t ≡ ps) × Spells t x))
    by [] is reads = absurd (cc is)
    by (p ∷ ps) is reads =
        let cut = pieces-join p ps (wholes p ps x is) in (
          reads.0,
          (
            join_by (λ t. t) (codes "-") (p ∷ ps),
            (
              cut,
              record {
                order = reads.1.order;
                lists = reads.1.lists;
                same = ap (map lowercase) cut ∙ reads.1.same;
              },
            ),
          ),
        )

pub returns-clause-complete : goal.returns-clause-complete
returns-clause-complete c t x known s = read_pieces-complete x known s.order s.lists (pieces t) s.same
