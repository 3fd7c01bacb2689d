-- Texts after texts.
use Rattle.std.proofs.Common.{◌≡◌, ◌∙◌, refl, ap, sym, subst, ℕ, Bool, true, false, ◌||◌, List, [], ◌∷◌, ◌++◌, append_assoc, append-nil, map, filter, not, if◌then◌else◌, Result, Ok, Err, IfOk, Option, Some, None, is_some}
use Rattle.std.proofs.lemmas.Bool.{false≢true}
use Rattle.std.specs.List.{flat_map, list_any}
use Rattle.icu_provider.specs.Names.{PatternPart}
use Rattle.icu_locale_names.specs.LanguageNames.{filled}
use Rattle.icu_locale_names.specs.Pieces.{Piece, plain}
use Rattle.icu_locale_extensions.specs.declared.identifier.LocaleIdentifier.{LocaleIdentifier}
use Rattle.icu_locale_names.specs.LanguageNames.{NameParts}
use Rattle.icu_provider.specs.declared.extension_names.ExtensionNames.{ExtensionNames}
use Rattle.icu_locale_full_names.specs.FullNames.{one_piece, joined_texts, glued_texts, attribute_says, marks_hybrid, is_before_x, is_beside_x, private_rows, unicode_texts, other_texts, further_texts, all_texts}
use Rattle.icu_locale_full_names.specs.Says.{Row, row_says, keyword_says}
use Rattle.icu_locale_full_names.specs.declared.draft.Draft.{Draft}
use Rattle.icu_locale_full_names.specs.inner.Drafts.{Adds, Joins, behind, behind_separator, are_some, is_any}
use Rattle.icu_locale_full_names.proofs.Adding.{adds_none, adds_more}

abbrev pub Text : Type 0
Text = List Piece

behind_separator-append : (sep : List ℕ) (ps qs : List Text) → behind_separator sep (ps ++ qs) ≡ behind_separator sep ps ++ behind_separator sep qs
behind_separator-append sep [] qs = refl
behind_separator-append sep (p ∷ ps) qs = ap (λ t. plain sep ∷ p ++ t) (behind_separator-append sep ps qs)
    ∙ ap (λ t. plain sep ∷ t) (sym (append_assoc p (behind_separator sep ps) (behind_separator sep qs)))

joined_cons : (sep : List ℕ) (p : Text) (ps : List Text) → joined_texts sep (p ∷ ps) ≡ p ++ behind_separator sep ps
joined_cons sep p [] = refl
joined_cons sep p (q ∷ ps) = ap (λ t. p ++ plain sep ∷ t) (joined_cons sep q ps)

behind-append : (is_any : Bool) (sep : List ℕ) (ps qs : List Text) → behind is_any sep (ps ++ qs) ≡ behind is_any sep ps
    ++ behind (is_any || are_some ps) sep qs
behind-append true sep ps qs = behind_separator-append sep ps qs
behind-append false sep [] qs = refl
behind-append false sep (p ∷ ps) qs = joined_cons sep p (ps ++ qs) ∙ ap (λ t. p ++ t) (behind_separator-append sep ps qs)
    ∙ sym (append_assoc p (behind_separator sep ps) (behind_separator sep qs))
    ∙ ap (λ t. t ++ behind_separator sep qs) (sym (joined_cons sep p ps))

pub are_some-append : (ps qs : List Text) → are_some (ps ++ qs) ≡ (are_some ps || are_some qs)
are_some-append [] qs = refl
are_some-append (p ∷ ps) qs = refl

pub or_assoc : (a b c : Bool) → ((a || b) || c) ≡ (a || (b || c))
or_assoc true b c = refl
or_assoc false b c = refl

pub or_none : (a : Bool) → (a || false) ≡ a
or_none true = refl
or_none false = refl

behind_none : (is_any : Bool) (sep : List ℕ) → behind is_any sep [] ≡ []
behind_none true sep = refl
behind_none false sep = refl

pub joins_none : (sep : List ℕ) (d : Draft) (is_any : Bool) → Joins sep [] d is_any d is_any
joins_none sep d is_any = record {
  adds = subst (λ ps. Adds ps d d) (sym (behind_none is_any sep)) (adds_none d);
  any = sym (or_none is_any);
}

pub joins_more : (sep : List ℕ) (ps qs : List Text) (old : Draft) (i : Bool) (middle : Draft) (j : Bool) (new : Draft) (k : Bool)
    → Joins sep ps old i middle j → Joins sep qs middle j new k → Joins sep (ps ++ qs) old i new k
joins_more sep ps qs old i middle j new k a b =
    let first = behind i sep ps in
    let second : behind j sep qs ≡ behind (i || are_some ps) sep qs = ap (λ any. behind any sep qs) a.any in
    record {
      adds = subst (λ pieces. Adds pieces old new) (ap (λ t. first ++ t) second ∙ sym (behind-append i sep ps qs))
          (adds_more first (behind j sep qs) old middle new a.adds b.adds);
      any = b.any ∙ ap (λ any. any || are_some qs) a.any ∙ or_assoc i (are_some ps) (are_some qs)
          ∙ ap (λ some. i || some) (sym (are_some-append ps qs));
    }

pub joins_more_ok : {E : Type 0} (sep : List ℕ) (ps qs : List Text) (old : Draft) (i : Bool) (middle : Draft) (j : Bool) (new : Draft)
    (r : Result Bool E) → Joins sep ps old i middle j → IfOk r (Joins sep qs middle j new) → IfOk r (Joins sep (ps ++ qs) old i new)
joins_more_ok sep ps qs old i middle j new (Ok k) a b = joins_more sep ps qs old i middle j new k a b
joins_more_ok sep ps qs old i middle j new (Err e) a b = tt

-- a walk: whoever joins what is left joins all
pub joins_left : (sep : List ℕ) (ps qs all : List Text) (old : Draft) (i : Bool) (first : Draft) (j : Bool) (middle : Draft) (k : Bool)
    → ((new : Draft) (after : Bool) → Joins sep (ps ++ qs) first j new after → Joins sep all old i new after)
    → Joins sep ps first j middle k
    → (new : Draft) (after : Bool) → Joins sep qs middle k new after → Joins sep all old i new after
joins_left sep ps qs all old i first j middle k rest joins new after more = rest new after (joins_more sep ps qs first j middle k new after joins more)

-- a list of which some are left out, the first and then the others
pub kept_cons : {A : Type 0} (f : A → Text) (keep : A → Bool) (x : A) (xs : List A)
    → map f (filter keep (x ∷ xs)) ≡ map f (filter keep (x ∷ [])) ++ map f (filter keep xs)
kept_cons {A} f keep x xs = (elim (keep x) as (λ b. map f (if b then x ∷ filter keep xs else filter keep xs)
    ≡ map f (if b then x ∷ [] else []) ++ map f (filter keep xs)) [
      | true ↦ refl
      | false ↦ refl
    ])

-- one text after others: the separator, unless it is the first, and the text
pub joins_one : (sep : List ℕ) (text : Text) (is_any : Bool) (old middle new : Draft)
    → Adds (if is_any then plain sep ∷ [] else []) old middle → Adds text middle new → Joins sep (text ∷ []) old is_any new true
joins_one sep text true old middle new a b = record {
  adds = subst (λ pieces. Adds pieces old new) (ap (λ t. plain sep ∷ t) (sym (append-nil text))) (adds_more (plain sep ∷ []) text old middle new a b);
  any = refl;
}
joins_one sep text false old middle new a b = record {
  adds = subst (λ pieces. Adds pieces old new) (sym (append-nil text) ∙ sym (joined_cons sep text [])) (adds_more [] text old middle new a b);
  any = refl;
}

-- ---- the whole, where there are no qualifiers and where there are some

pub glued_where_none : (base : Piece) (texts : List Text) (pattern : List PatternPart) (sep : List ℕ) → are_some texts ≡ false
    → glued_texts base texts pattern sep ≡ base ∷ []
glued_where_none base [] pattern sep none = refl
glued_where_none base (t ∷ ts) pattern sep none = absurd (cc)

pub glued_where_some : (base : Piece) (texts : List Text) (pattern : List PatternPart) (sep : List ℕ) → are_some texts ≡ true
    → glued_texts base texts pattern sep ≡ flat_map (filled base (joined_texts sep texts)) pattern
glued_where_some base [] pattern sep some = absurd (cc)
glued_where_some base (t ∷ ts) pattern sep some = refl

-- ---- whether there is a text

pub are_some-map : {A : Type 0} (f : A → Text) (xs : List A) → are_some (map f xs) ≡ is_any xs
are_some-map f [] = refl
are_some-map f (x ∷ xs) = refl

-- a test for emptiness tells too
pub some_unless_empty : {A : Type 0} (xs : List A) (empty : Bool) → (xs ≡ [] → empty ≡ true) → empty ≡ false → is_any xs ≡ true
some_unless_empty [] empty test some = absurd (false≢true (sym some ∙ test refl))
some_unless_empty (x ∷ xs) empty test some = refl

pub are_some-kept : {A : Type 0} (f : A → Text) (keep : A → Bool) (xs : List A) → are_some (map f (filter keep xs)) ≡ list_any keep xs
are_some-kept f keep [] = refl
are_some-kept {A} f keep (x ∷ xs) = (elim (keep x) as (λ b. are_some (map f (if b then x ∷ filter keep xs else filter keep xs)) ≡ (b || list_any keep xs)) [
  | true ↦ refl
  | false ↦ are_some-kept f keep xs
])

module _ (names : ExtensionNames) (sep : List ℕ) where
  -- on both sides of `x`, and between them
  beside : (q : Bool) (others : List Row)
      → (list_any (is_beside_x true) others || (q || list_any (is_beside_x false) others)) ≡ (is_any others || q)
  beside true [] = refl
  beside false [] = refl
  beside q (o ∷ others) = (elim (is_before_x o) as (λ b. ((b || list_any (is_beside_x true) others) || (q || (not b || list_any (is_beside_x false) others))) ≡ true) [
    | true ↦ refl
    | false ↦ past q (list_any (is_beside_x true) others)
  ])
    where
      past : (q a : Bool) → (a || (q || true)) ≡ true
      past true true = refl
      past true false = refl
      past false true = refl
      past false false = refl

  private_is : (p : Option (List (List ℕ))) → are_some (map (row_says names) (private_rows p)) ≡ is_some p
  private_is None = refl
  private_is (Some p) = refl

  others_say : (x : LocaleIdentifier) → are_some (other_texts names x) ≡ (is_any x.others || is_some x.private_use)
  others_say x =
      let first = map (row_says names) (filter (is_beside_x true) x.others) in
      let middle = map (row_says names) (private_rows x.private_use) in
      let last = map (row_says names) (filter (is_beside_x false) x.others) in
      are_some-append first (middle ++ last)
      ∙ ap (λ b. are_some first || b) (are_some-append middle last)
      ∙ (λ i. are_some-kept (row_says names) (is_beside_x true) x.others i || (private_is x.private_use i
      || are_some-kept (row_says names) (is_beside_x false) x.others i))
      ∙ beside (is_some x.private_use) x.others

  unicode_says : (x : LocaleIdentifier) → are_some (unicode_texts names sep x)
      ≡ (is_any x.attributes || is_any x.locale.extensions.unicode.keywords)
  unicode_says x =
      let first = map attribute_says x.attributes in
      let last = map (keyword_says names sep) x.locale.extensions.unicode.keywords in
      are_some-append first last
      ∙ (λ i. are_some-map attribute_says x.attributes i || are_some-map (keyword_says names sep) x.locale.extensions.unicode.keywords i)

  -- whether extensions say something, but for the language of `t`
  pub further_is : (x : LocaleIdentifier) → are_some (further_texts names sep None x)
      ≡ (list_any (λ row. not (marks_hybrid row)) x.fields || (is_any x.attributes || (is_any x.locale.extensions.unicode.keywords
      || (is_any x.others || is_some x.private_use))))
  further_is x =
      let fields = map (row_says names) (filter (λ row. not (marks_hybrid row)) x.fields) in
      are_some-append fields (unicode_texts names sep x ++ other_texts names x)
      ∙ (λ i. are_some-kept (row_says names) (λ row. not (marks_hybrid row)) x.fields i || are_some-append (unicode_texts names sep x) (other_texts names x) i)
      ∙ ap (λ b. list_any (λ row. not (marks_hybrid row)) x.fields || b)
      ((λ i. unicode_says x i || others_say x i) ∙ or_assoc (is_any x.attributes) (is_any x.locale.extensions.unicode.keywords) (is_any x.others || is_some x.private_use))

-- whether there is a qualifier: of the identifier, the language of `t`, or another further one
pub all_is : (base : NameParts) (names : ExtensionNames) (language : Option NameParts) (x : LocaleIdentifier)
    → are_some (all_texts base names language x)
    ≡ (is_any base.qualifiers || (is_some language || are_some (further_texts names base.separator None x)))
all_is base names None x =
    are_some-append (map one_piece base.qualifiers) (further_texts names base.separator None x)
    ∙ ap (λ b. b || are_some (further_texts names base.separator None x)) (are_some-map one_piece base.qualifiers)
all_is base names (Some l) x =
    are_some-append (map one_piece base.qualifiers) (further_texts names base.separator (Some l) x)
    ∙ ap (λ b. b || true) (are_some-map one_piece base.qualifiers)
