-- The rules that are read of tables of aliases with the same rows are alike.
use Rattle.std.proofs.Common.{◌≡◌, ℕ, List, [], ◌∷◌, map, Option, Some, None, IsSomeAnd, ap, sym, subst, ◌∙◌, inl, inr, true, option_map}
use Rattle.std.proofs.lemmas.Option.{same_Some}
use Rattle.std.specs.Global.{Global}
use Rattle.std.specs.Prelude.{String, string_bytes}
use Rattle.icu_locale_core.specs.Identifier.{IsIdentifier, Spells}
use Rattle.icu_locale_core.specs.TextSet.{from_list}
use Rattle.icu_locale_core.specs.Value.{is_value, read_value}
use Rattle.icu_locale_core.specs.declared.langid.LanguageIdentifier.{LanguageIdentifier}
use Rattle.icu_locale.specs.Rules.{AreRead, AreRules, ReadsAs, ReadsLanguage, ReadsRule, ReadsSubdivision, ReadsVariantRule, are_lower_variants, pieces_of_variants}
use Rattle.icu_locale.specs.declared.canonicalizer.rules.Rule.{Rule}
use Rattle.icu_locale.specs.declared.canonicalizer.rules.Rules.{Rules}
use Rattle.icu_provider.specs.declared.aliases.Aliases.{Aliases}
use Rattle.icu_provider.specs.declared.aliases.LanguageStrStrPair.{LanguageStrStrPair}
use Rattle.icu_provider.specs.declared.aliases.StrStrPair.{StrStrPair}
use Rattle.icu_tables.specs.Rows.{alias_rows, rule, variants_rule}

-- ---- lists

abbrev pub is_none : {S : Type 0} → List S → Type 0
is_none [] = Unit {0}
is_none (x ∷ xs) = ⊥

abbrev pub head_or : {S : Type 0} → S → List S → S
head_or d [] = d
head_or d (x ∷ xs) = x

abbrev pub behind : {S : Type 0} → List S → List S
behind [] = []
behind (x ∷ xs) = xs

-- rows of which the same is seen are read as one list where what is seen tells what a row is read as
module _ {R S K : Type 0} (seen : R → S) (reads : R → K → Type 0) (moved : (x y : R) (k : K) → seen x ≡ seen y → reads x k → reads y k)
    (one : (x : R) (k l : K) → reads x k → reads x l → k ≡ l) where
  read_one : (rows others : List R) (kept more : List K) → map seen rows ≡ map seen others → AreRead reads rows kept → AreRead reads others more
      → kept ≡ more
  read_one [] [] kept more same p q = p ∙ sym q
  read_one [] (y ∷ ys) kept more same p q = absurd (subst is_none same tt)
  read_one (x ∷ xs) [] kept more same p q = absurd (subst is_none (sym same) tt)
  read_one (x ∷ xs) (y ∷ ys) kept more same (inl (k, rest, is, read, of)) (inl (l, rest', is', read', of')) =
      let first = one y k l (moved x y k (ap (head_or (seen x)) same) read) read' in
      let others = read_one xs ys rest rest' (ap behind same) of of' in
      is ∙ (λ i. first i ∷ others i) ∙ sym is'
  read_one (x ∷ xs) (y ∷ ys) kept more same (inl (k, rest, is, read, of)) (inr (none, of')) =
      absurd (none k (moved x y k (ap (head_or (seen x)) same) read))
  read_one (x ∷ xs) (y ∷ ys) kept more same (inr (none, of)) (inl (l, rest', is', read', of')) =
      absurd (none l (moved y x l (sym (ap (head_or (seen x)) same)) read'))
  read_one (x ∷ xs) (y ∷ ys) kept more same (inr (none, of)) (inr (none', of')) = read_one xs ys kept more (ap behind same) of of'

-- ---- rows

-- a text spells one identifier at most
abbrev pub SpelledOnce : Type 0
SpelledOnce = (t : List ℕ) (x y : LanguageIdentifier) → IsIdentifier x → IsIdentifier y → Spells t x → Spells t y → x ≡ y

abbrev pub TextRow : Type 0
TextRow = List ℕ × String Global

abbrev pub text_row : TextRow → List ℕ × List ℕ
text_row row = (row.0, string_bytes row.1)

rule_moved : (x y : StrStrPair) (k : Rule) → ◌≡◌ {A = List ℕ × List ℕ} (rule x) (rule y) → ReadsRule x k → ReadsRule y k
rule_moved x y k same h = record {
  source = subst (λ t. ReadsAs t k.source) (λ i. (same i).0) h.source;
  replacement = subst (λ t. ReadsAs t k.replacement) (λ i. (same i).1) h.replacement;
}

variants_moved : (x y : LanguageStrStrPair) (k : Rule) → ◌≡◌ {A = List ℕ × List ℕ × List ℕ} (variants_rule x) (variants_rule y) → ReadsVariantRule x k
    → ReadsVariantRule y k
variants_moved x y k same h = record {
  variants = subst (λ t. are_lower_variants t ≡ true) (λ i. (same i).1) h.variants;
  source = h.source ∙ (λ i. record {
    language = (same i).0;
    script = None;
    region = None;
    variants = from_list (pieces_of_variants ((same i).1));
  });
  replacement = subst (λ t. ReadsAs t k.replacement) (λ i. (same i).2) h.replacement;
}

language_moved : (x y : TextRow) (k : List ℕ × LanguageIdentifier) → ◌≡◌ {A = List ℕ × List ℕ} (text_row x) (text_row y) → ReadsLanguage x k → ReadsLanguage y k
language_moved x y k same h = record {
  key = h.key ∙ (λ i. (same i).0);
  replacement = subst (λ t. ReadsAs t k.1) (λ i. (same i).1) h.replacement;
}

subdivision_moved : (x y : TextRow) (k : List ℕ × List (List ℕ)) → ◌≡◌ {A = List ℕ × List ℕ} (text_row x) (text_row y) → ReadsSubdivision x k → ReadsSubdivision y k
subdivision_moved x y k same h = record {
  key = h.key ∙ (λ i. (same i).0);
  readable = subst (λ t. is_value t ≡ true) (λ i. (same i).1) h.readable;
  value = h.value ∙ (λ i. read_value ((same i).1));
}

-- ---- rules

-- rules with the same rows: of a list of regions its items are seen
pub record SameRules (r s : Rules) : Type 0 where
  pub language : r.language ≡ s.language
  pub language_variants : r.language_variants ≡ s.language_variants
  pub language_len2 : r.language_len2 ≡ s.language_len2
  pub language_len3 : r.language_len3 ≡ s.language_len3
  pub subdivision : r.subdivision ≡ s.subdivision
  pub aliases : alias_rows r.aliases ≡ alias_rows s.aliases

module _ (once : SpelledOnce) where
  as_one : (t : List ℕ) (x y : LanguageIdentifier) → ReadsAs t x → ReadsAs t y → x ≡ y
  as_one t x y p q = once t x y p.known q.known p.spelled q.spelled

  rule_one : (row : StrStrPair) (a b : Rule) → ReadsRule row a → ReadsRule row b → a ≡ b
  rule_one row a b p q =
      let source = as_one _ a.source b.source p.source q.source in
      let replacement = as_one _ a.replacement b.replacement p.replacement q.replacement in
      λ i. record { source = source i; replacement = replacement i }

  variants_one : (row : LanguageStrStrPair) (a b : Rule) → ReadsVariantRule row a → ReadsVariantRule row b → a ≡ b
  variants_one row a b p q =
      let source = p.source ∙ sym q.source in
      let replacement = as_one _ a.replacement b.replacement p.replacement q.replacement in
      λ i. record { source = source i; replacement = replacement i }

  language_one : (row : TextRow) (a b : List ℕ × LanguageIdentifier) → ReadsLanguage row a → ReadsLanguage row b → a ≡ b
  language_one row a b p q =
      let key = p.key ∙ sym q.key in
      let replacement = as_one _ a.1 b.1 p.replacement q.replacement in
      λ i. (key i, replacement i)

  subdivision_one : (row : TextRow) (a b : List ℕ × List (List ℕ)) → ReadsSubdivision row a → ReadsSubdivision row b → a ≡ b
  subdivision_one row a b p q =
      let key = p.key ∙ sym q.key in
      let value = p.value ∙ sym q.value in
      λ i. (key i, value i)

  rules_same : (t u : Aliases) (r s : Rules) → alias_rows t ≡ alias_rows u → AreRules t r → AreRules u s → SameRules r s
  rules_same t u r s same p q = record {
    language = read_one rule ReadsRule rule_moved rule_one t.language u.language r.language s.language (λ i. (same i).language) p.language q.language;
    language_variants = read_one variants_rule ReadsVariantRule variants_moved variants_one t.language_variants u.language_variants
        r.language_variants s.language_variants (λ i. (same i).language_variants) p.language_variants q.language_variants;
    language_len2 = read_one text_row ReadsLanguage language_moved language_one t.language_len2 u.language_len2 r.language_len2 s.language_len2
        (λ i. (same i).language_len2) p.language_len2 q.language_len2;
    language_len3 = read_one text_row ReadsLanguage language_moved language_one t.language_len3 u.language_len3 r.language_len3 s.language_len3
        (λ i. (same i).language_len3) p.language_len3 q.language_len3;
    subdivision = read_one text_row ReadsSubdivision subdivision_moved subdivision_one t.subdivision u.subdivision r.subdivision s.subdivision
        (λ i. (same i).subdivision) p.subdivision q.subdivision;
    aliases = ap alias_rows p.others ∙ same ∙ sym (ap alias_rows q.others);
  }

  -- the same of tables that there may be
  pub rules_of_same : (o p : Option Aliases) (r s : Rules) → option_map alias_rows o ≡ option_map alias_rows p → IsSomeAnd o (λ table. AreRules table r)
      → IsSomeAnd p (λ table. AreRules table s) → SameRules r s
  rules_of_same None p r s same are also = absurd are
  rules_of_same (Some x) None r s same are also = absurd also
  rules_of_same (Some x) (Some y) r s same are also = rules_same x y r s (same_Some (alias_rows x) (alias_rows y) same) are also
