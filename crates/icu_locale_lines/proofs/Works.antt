-- Works of one command over tables with the same rows answer alike.
use Rattle.icu_locale_lines.proofs.SameTables.{SayTheSame, directions_one, likely_same, same_tables}
use Rattle.std.proofs.Common.{◌≡◌, ℕ, Bool, true, false, List, [], ◌∷◌, Option, Some, None, refl, ap, sym, subst, ◌∙◌, ◌++◌, codes, is_some, ◌&&◌}
use Rattle.std.specs.Prelude.{IsSomeAnd, option_map}
use Rattle.icu_provider.specs.declared.aliases.Aliases.{Aliases}
use Rattle.icu_locale.specs.RuleSet.{lent}
use Rattle.icu_locale.specs.Rules.{AreRules}
use Rattle.icu_locale_lines.specs.Locales.{SpellsLocale, IsLocaleFault}
use Rattle.std.specs.Borrow.{Bor}
use Rattle.std.proofs.lemmas.Option.{same_Some, none-some}
use Rattle.icu_locale_core.specs.Maps.{value_at}
use Rattle.icu_locale_core.specs.declared.langid.LanguageIdentifier.{LanguageIdentifier}
use Rattle.icu_provider.specs.Requests.{exemplar_cmp, locale_cmp}
use Rattle.icu_provider.specs.declared.data_locale.DataLocale.{DataLocale}
use Rattle.icu_provider.specs.declared.direction.ScriptDirection.{ScriptDirection}
use Rattle.icu_provider.specs.declared.exemplars.ExemplarCharactersData.{ExemplarCharactersData}
use Rattle.icu_provider.specs.declared.exemplars.ExemplarMarker.{ExemplarMarker}
use Rattle.icu_provider.specs.declared.matching.LanguageMatching.{LanguageMatching}
use Rattle.icu_provider.specs.declared.names.NameKey.{NameKey}
use Rattle.icu_provider.specs.declared.names.NameMarker.{NameMarker}
use Rattle.icu_tables.specs.LentNames.{all_names}
use Rattle.icu_tables.specs.NamedKeys.{AreNamedKeys}
use Rattle.icu_tables.specs.Rows.{alias_rows, direction_rows}
use Rattle.icu_tables.specs.Supplement.{matching_rows}
use Rattle.icu_tables.specs.declared.tables.Tables.{Tables}
use Rattle.icu_locale.specs.Direction.{direction_of}
use Rattle.icu_locale.specs.LikelySubtags.{LikelySubtags, likely_script}
use Rattle.icu_locale.specs.LikelyTable.{likely}
use Rattle.icu_locale.specs.Negotiation.{Negotiation, IsNegotiated}
use Rattle.icu_locale.specs.declared.canonicalizer.rules.Rules.{Rules}
use Rattle.icu_locale.specs.declared.directionality.LocaleDirectionality.{LocaleDirectionality}
use Rattle.icu_locale.specs.declared.expander.LocaleExpander.{LocaleExpander}
use Rattle.icu_locale_extensions.specs.Built.{bare}
use Rattle.icu_locale_extensions.specs.Syntaxes.{IsFaultBy}
use Rattle.icu_locale_extensions.specs.declared.identifier.LocaleIdentifier.{LocaleIdentifier}
use Rattle.icu_locale_extensions.specs.declared.syntax.Syntax.{Syntax}
use Rattle.icu_locale_fallback.specs.declared.fallbacker.LocaleFallbackerWithConfig.{LocaleFallbackerWithConfig}
use Rattle.icu_locale_names.specs.declared.name_chain.NameChain.{NameChain}
use Rattle.icu_locale_names.specs.declared.options.DisplayNamesPreferences.{DisplayNamesPreferences}
use Rattle.icu_locale_matching.specs.Nearest.{form_of}
use Rattle.icu_locale_matching.specs.Service.{Service}
use Rattle.icu_locale_parts.specs.Parts.{members}
use Rattle.icu_locale_validity.specs.declared.table.Validity.{Validity}
use Rattle.icu_locale_values.specs.Whole.{WholeRules, whole_rules}
use Rattle.icu_locale_values.specs.declared.canonicalizer.WholeCanonicalizer.{WholeCanonicalizer}
use Rattle.icu_locale_lines.specs.Answers.{IsAnswer, IsAnswerAt, IsAnswerBy, IsAnswerOf, IsCanonicalAnswer, IsCanonicalized, IsNamed, IsNamedWith, IsReported, IsTransformed, IsWholeNamed, IsWholeTransformed}
use Rattle.icu_locale_lines.specs.Chains.{IsChained}
use Rattle.icu_locale_lines.specs.Commands.{names_canonical}
use Rattle.icu_locale_lines.specs.Held.{Held, AreToolsOver, IsNamedBy, IsNamingOf, IsNegotiationOf, IsSubtagNamingOf, IsWorkOver}
use Rattle.icu_locale_lines.specs.Lists.{IsFirstFault, IsListedAnswer, SpellsAll, SpellsWhole, TellsMatch, listed}
use Rattle.icu_locale_lines.specs.Loads.{IsExpanderOf, IsWholeOf}
use Rattle.icu_locale_lines.specs.Names.{IsNamedLine, whole_name_asked}
use Rattle.icu_locale_lines.specs.Serving.{distance_line, IsDistanceLine, IsWishAnswerTo}
use Rattle.icu_locale_lines.specs.SubtagLists.{began, markers_of}
use Rattle.icu_locale_lines.specs.Subtags.{IsToldLine, exemplar_answer}
use Rattle.icu_locale_lines.specs.Texts.{direction_line}
use Rattle.icu_locale_lines.specs.Wholes.{IsCanonicalThen, IsKeyed, IsWholeCanonicalized, keyed}
use Rattle.icu_locale_lines.specs.declared.command.KeyOf.{KeyOf}
use Rattle.icu_locale_lines.specs.declared.command.LineCommand.{LineCommand}
use Rattle.icu_locale_lines.specs.declared.command.ServeTask.{ServeTask}
use Rattle.icu_locale_lines.specs.declared.command.Task.{Task}
use Rattle.icu_locale_lines.specs.declared.command.Task.TheVariants as task
use Rattle.icu_locale_lines.specs.declared.work.Tools.{Tools}
use Rattle.icu_locale_lines.specs.declared.work.Tools.TheVariants as tools
use Rattle.icu_locale_lines.specs.declared.work.Work.{Work}
use Rattle.icu_locale_lines.specs.declared.work.form.Form.{Form}
use Rattle.icu_locale_lines.specs.declared.work.name.Naming.{Naming}
use Rattle.icu_locale_lines.specs.declared.work.offered.Offered.{Offered}
use Rattle.icu_locale_lines.specs.declared.work.subtag.SubtagChain.{SubtagChain}
use Rattle.icu_locale_lines.specs.declared.work.subtag.SubtagKind.{SubtagKind}
use Rattle.icu_locale_lines.specs.declared.work.subtag.SubtagNaming.{SubtagNaming}
use Rattle.icu_locale_lines.specs.declared.work.subtag_list.SubtagList.{SubtagList}
use Rattle.icu_locale_lines.proofs.MatchingAlike.{distance_alike, over}
use Rattle.icu_locale_lines.proofs.RulesRead.{SpelledOnce, rules_of_same}
use Rattle.icu_locale_lines.proofs.RunsAlike.{TurnAlike, turn_alike}
use Rattle.icu_locale_lines.proofs.WholesAlike.{canonical_line_alike, keyed_alike, then_alike, whole_line_alike}
use Rattle.icu_locale_lines.proofs.WorkParts.{asked_alike, asked_with_alike, chained_alike, each_alike, read_alike, subtag_alike, wished_alike}

-- the same is held
pub record HoldTheSame (h k : Held) : Type 0 where
  pub tables : SayTheSame h.tables k.tables
  pub available : h.available ≡ k.available
  pub wholes : h.wholes ≡ k.wholes

-- ---- tools

module _ (once : SpelledOnce) (syntax : Option Syntax) (h k : Held) (same : HoldTheSame h k) (line text : List ℕ) (a : Bool) where
  abbrev pub Says : Tools → Type 0
  Says made = IsAnswerBy syntax made line text a

  likely_alike : (e f : LocaleExpander) → IsExpanderOf h.tables e → IsExpanderOf k.tables f → likely e ≡ likely f
  likely_alike e f over also = likely_same h.tables k.tables same.tables e f over also

  -- what d goes by, with the rules of c
  abbrev pub mixed : WholeCanonicalizer → WholeCanonicalizer → WholeRules
  mixed c d = record {
    likely = likely d.rules.expander;
    rules = lent c.rules.rules;
    keywords = d.values.keywords.now;
    fields = d.values.fields.now;
  }

  mixes : (c d : WholeCanonicalizer) → IsWholeOf h.tables c → IsWholeOf k.tables d → whole_rules c ≡ mixed c d
  mixes c d over also =
      let table = likely_alike c.rules.expander d.rules.expander over.rules.expander also.rules.expander in
      let keywords = over.keywords ∙ (λ i. (same.tables.supplement i).keywords) ∙ sym also.keywords in
      let fields = over.fields ∙ (λ i. (same.tables.supplement i).fields) ∙ sym also.fields in
      λ i. record { likely = table i; rules = lent c.rules.rules; keywords = keywords i; fields = fields i }

  turns_of : (table : LikelySubtags) (r s : Rules) → IsSomeAnd h.tables.aliases (λ aliases. AreRules aliases r)
      → IsSomeAnd k.tables.aliases (λ aliases. AreRules aliases s) → TurnAlike table r s
  turns_of table r s of_r of_s = turn_alike table r s (rules_of_same once h.tables.aliases k.tables.aliases r s same.tables.aliases of_r of_s)

  turns : (c d : WholeCanonicalizer) → IsWholeOf h.tables c → IsWholeOf k.tables d
      → TurnAlike (likely d.rules.expander) (lent c.rules.rules) (lent d.rules.rules)
  turns c d over also = turns_of (likely d.rules.expander) (lent c.rules.rules) (lent d.rules.rules) over.rules.rules also.rules.rules

  by_transform : (form one : Form) (e : LocaleExpander) (two : Tools) → (one ≡ form) × IsExpanderOf h.tables e
      → AreToolsOver syntax (task.Form form) k two → Says (tools.Form one e) → Says two
  by_transform form one e (tools.Form two f) p q says =
      let forms = p.0 ∙ sym q.0 in
      let table = likely_alike e f p.1 q.1 in
      subst (λ (z : Form × LikelySubtags). IsAnswerOf syntax (IsTransformed z.0 z.1) (IsWholeTransformed z.0 z.1) line text a)
      (λ i. (forms i, table i)) says
  by_transform form one e two p q says = absurd q

  by_canonicalize : (c : WholeCanonicalizer) (two : Tools) → IsWholeOf h.tables c → AreToolsOver syntax task.Canonicalize k two
      → Says (tools.Canonicalize c) → Says two
  by_canonicalize c (tools.Canonicalize d) p q says =
      by syntax (subst (λ by. IsCanonicalAnswer syntax by line text a) (mixes c d p q) says)
    where
      by : (o : Option Syntax) → IsCanonicalAnswer o (mixed c d) line text a → IsCanonicalAnswer o (whole_rules d) line text a
      by None answer = read_alike line text a SpellsLocale IsLocaleFault (IsCanonicalized (likely d.rules.expander) (lent c.rules.rules))
          (IsCanonicalized (likely d.rules.expander) (lent d.rules.rules))
          (canonical_line_alike (likely d.rules.expander) (lent c.rules.rules) (lent d.rules.rules) (turns c d p q) d.values.keywords.now
          d.values.fields.now text a) answer
      by (Some s) answer = read_alike line text a (SpellsWhole s) (IsFaultBy s) (IsWholeCanonicalized (mixed c d)) (IsWholeCanonicalized (whole_rules d))
          (whole_line_alike (likely d.rules.expander) (lent c.rules.rules) (lent d.rules.rules) (turns c d p q) d.values.keywords.now
          d.values.fields.now text a) answer
  by_canonicalize c two p q says = absurd q

  abbrev pub IsDirectedBy : ScriptDirection × LikelySubtags → LanguageIdentifier → List ℕ → Bool → Type 0
  IsDirectedBy z x t accepted = (t ≡ direction_line (direction_of z.0 (likely_script z.1 x))) × (accepted ≡ true)

  by_direction : (d : LocaleDirectionality LocaleExpander) (two : Tools)
      → IsExpanderOf h.tables d.expander × (h.tables.script_direction ≡ Some d.script_direction.now) → AreToolsOver syntax task.Direction k two
      → Says (tools.Direction d) → Says two
  by_direction d (tools.Direction e) p q says =
      let table = likely_alike d.expander e.expander p.0 q.0 in
      let rows = same_Some (direction_rows d.script_direction.now) (direction_rows e.script_direction.now)
      (sym (ap (option_map direction_rows) p.1) ∙ same.tables.direction ∙ ap (option_map direction_rows) q.1) in
      let directions = directions_one d.script_direction.now e.script_direction.now rows in
      subst (λ (z : ScriptDirection × LikelySubtags). IsAnswerOf syntax (IsDirectedBy z) (λ x. IsDirectedBy z x.locale.id) line text a)
      (λ i. (directions i, table i)) says
  by_direction d two p q says = absurd q

  abbrev pub IsNegotiatedBy : LikelySubtags × List LanguageIdentifier × List LocaleIdentifier → List LanguageIdentifier → List ℕ → Bool → Type 0
  IsNegotiatedBy z requests t accepted = (found : Option (ℕ × ℕ)) × IsNegotiated z.0 requests z.1 found × TellsMatch z.1 z.2 found t × (accepted ≡ true)

  by_negotiate : (n : Negotiation) (o : Bor Offered) (two : Tools) → IsNegotiationOf h n × (o.now.wholes.items ≡ h.wholes)
      → AreToolsOver syntax task.Negotiate k two → Says (tools.Negotiate n o) → Says two
  by_negotiate n o (tools.Negotiate m u) p q says =
      let table = likely_alike n.expander m.expander p.0.expander q.0.expander in
      let available = same_Some n.available m.available (sym p.0.available ∙ same.available ∙ q.0.available) in
      let wholes = p.1 ∙ same.wholes ∙ sym q.1 in
      subst (λ (z : LikelySubtags × List LanguageIdentifier × List LocaleIdentifier). IsListedAnswer syntax (IsNegotiatedBy z) line text a)
      (λ i. (table i, available i, wholes i)) says
  by_negotiate n o two p q says = absurd q

  some_alike : (o p : Option Aliases) → option_map alias_rows o ≡ option_map alias_rows p → is_some o ≡ is_some p
  some_alike o p is = sym (some_of o) ∙ ap is_some is ∙ some_of p
    where
      some_of : (o : Option Aliases) → is_some (option_map alias_rows o) ≡ is_some o
      some_of None = refl
      some_of (Some x) = refl

  -- a locale identifier is named by rules or as it is
  named_alike : (b : Bool) (n m : Naming) (c d : Option WholeCanonicalizer) → IsNamedBy b h.tables c → IsNamedBy b k.tables d
      → ((x : LocaleIdentifier) → whole_name_asked n x ≡ whole_name_asked m x) → (x : LocaleIdentifier) → IsNamedWith n c x text a → IsNamedWith m d x text a
  named_alike true n m None d p q asked x is = absurd p
  named_alike true n m (Some c) None p q asked x is = absurd q
  named_alike true n m (Some c) (Some d) p q asked x is =
      then_alike (likely d.rules.expander) (lent c.rules.rules) (lent d.rules.rules) (turns c d p q) d.values.keywords.now d.values.fields.now text a
      (λ new. IsNamedLine (whole_name_asked n new)) (λ new. IsNamedLine (whole_name_asked m new))
      (λ new. subst (λ r. IsNamedLine r text a) (asked new)) x
      (subst (λ by. IsCanonicalThen (λ new. IsNamedLine (whole_name_asked n new)) by x text a) (mixes c d p q) is)
  named_alike false n m None None p q asked x is = subst (λ r. IsNamedLine r text a) (asked x) is
  named_alike false n m None (Some d) p q asked x is = absurd (none-some d (sym q))
  named_alike false n m (Some c) d p q asked x is = absurd (none-some c (sym p))

  by_name : (chain : NameChain) (preferences : DisplayNamesPreferences) (n : Naming) (two : Tools) → IsNamingOf syntax chain preferences h.tables n
      → AreToolsOver syntax (task.Name chain preferences) k two → Says (tools.Name n) → Says two
  by_name chain preferences n (tools.Name m) p q says =
      let names = p.names ∙ same.tables.names ∙ sym q.names in
      let menus = ap (λ (t : Tables). t.menus) p.tables ∙ same.tables.menus ∙ sym (ap (λ (t : Tables). t.menus) q.tables) in
      let essentials = ap (λ (t : Tables). t.essentials) p.tables ∙ same.tables.essentials ∙ sym (ap (λ (t : Tables). t.essentials) q.tables) in
      let chains = p.chain_is ∙ sym q.chain_is in
      let prefer = p.preferences_are ∙ sym q.preferences_are in
      let extensions = p.extensions ∙ (λ i. value_at locale_cmp (same.tables.supplement i).extension_names preferences.locale)
      ∙ sym q.extensions in
      let aliases = some_alike h.tables.aliases k.tables.aliases same.tables.aliases in
      let canonical : names_canonical syntax h.tables ≡ names_canonical syntax k.tables = λ i. is_some syntax
      && (is_some (same.tables.language i) && is_some (same.tables.script_region i) && aliases i) in
      each_alike line text a syntax (IsNamed n) (IsNamed m) (IsWholeNamed n) (IsWholeNamed m)
      (λ x. subst (λ r. IsNamedLine r text a) (asked_alike n m names menus essentials chains prefer x))
      (named_alike (names_canonical syntax h.tables) n m n.canonicalizer m.canonicalizer p.canonicalizer
      (subst (λ b. IsNamedBy b k.tables m.canonicalizer) (sym canonical) q.canonicalizer)
      (λ x. asked_with_alike n m names menus essentials chains prefer n.extensions m.extensions x extensions)) says
  by_name chain preferences n two p q says = absurd q

  by_fallback : (f : LocaleFallbackerWithConfig) (two : Tools) → AreToolsOver syntax task.Fallback h (tools.Fallback f)
      → AreToolsOver syntax task.Fallback k two → Says (tools.Fallback f) → Says two
  by_fallback f (tools.Fallback g) p q says =
      let table = likely_alike f.fallbacker.expander g.fallbacker.expander p.0 q.0 in
      let parents = p.1 ∙ (λ i. (same.tables.supplement i).parents) ∙ sym q.1 in
      let priority = p.2 ∙ sym q.2 in
      each_alike line text a syntax (IsChained f) (IsChained g) (λ x. IsChained f x.locale.id) (λ x. IsChained g x.locale.id)
      (λ x. chained_alike f g priority table parents x text a) (λ x. chained_alike f g priority table parents x.locale.id text a) says
  by_fallback f two p q says = absurd q

  matching_alike : (m n : LanguageMatching) → h.tables.supplement.matching ≡ Some m → k.tables.supplement.matching ≡ Some n
      → matching_rows m ≡ matching_rows n
  matching_alike m n has also = same_Some (matching_rows m) (matching_rows n)
      (sym (ap (option_map matching_rows) has) ∙ (λ i. (same.tables.supplement i).matching) ∙ ap (option_map matching_rows) also)

  by_serve : (served one : ServeTask) (s : Service) (o : Bor Offered) (two : Tools) → AreToolsOver syntax (task.Serve served) h (tools.Serve one s o)
      → AreToolsOver syntax (task.Serve served) k two → Says (tools.Serve one s o) → Says two
  by_serve served one s o (tools.Serve two u v) p q says =
      let table = likely_alike s.expander u.expander p.1.expander q.1.expander in
      let rules = turns_of (likely u.expander) s.rules u.rules p.1.rules q.1.rules in
      let matching = matching_alike s.matching u.matching p.1.matching q.1.matching in
      let limits = p.1.limits ∙ sym q.1.limits in
      let available = same_Some s.available u.available (sym p.1.available ∙ same.available ∙ q.1.available) in
      let wholes = p.2 ∙ same.wholes ∙ sym q.2 in
      let how = p.0 ∙ sym q.0 in
      wished_alike s u table rules matching limits available two o.now.wholes.items v.now.wholes.items wholes line text a syntax two.wishes
      (subst (λ w. IsWishAnswerTo w.wishes syntax w s o.now.wholes.items line text a) how says)
  by_serve served one s o two p q says = absurd q

  far_alike : (m n : LanguageMatching) (table : LikelySubtags) → matching_rows m ≡ matching_rows n → (xs : List LanguageIdentifier)
      → IsDistanceLine m table xs text a → IsDistanceLine n table xs text a
  far_alike m n table rows [] h = h
  far_alike m n table rows (d ∷ []) h = h
  far_alike m n table rows (d ∷ s ∷ []) h = (h.0 ∙ ap distance_line (distance_alike m n rows (form_of table d) (form_of table s)), h.1)
  far_alike m n table rows (d ∷ s ∷ x ∷ xs) h = h

  by_distance : (e : LocaleExpander) (m : Bor LanguageMatching) (two : Tools) → AreToolsOver syntax task.Distance h (tools.Distance e m)
      → AreToolsOver syntax task.Distance k two → Says (tools.Distance e m) → Says two
  by_distance e m (tools.Distance f n) p q says =
      let table = likely_alike e f p.0 q.0 in
      let rows = matching_alike m.now n.now p.1 q.1 in
      read_alike line text a (λ t xs. SpellsAll syntax (listed t) xs) (λ t e. IsFirstFault syntax (listed t) e) (IsDistanceLine m.now (likely f))
      (IsDistanceLine n.now (likely f)) (far_alike m.now n.now (likely f) rows)
      (subst (λ l. IsListedAnswer syntax (IsDistanceLine m.now l) line text a) table says)
  by_distance e m two p q says = absurd q

  by_key : (of one : KeyOf) (c : WholeCanonicalizer) (two : Tools) → AreToolsOver syntax (task.Key of) h (tools.Key one c)
      → AreToolsOver syntax (task.Key of) k two → Says (tools.Key one c) → Says two
  by_key of one c (tools.Key two d) p q says =
      let kinds = p.0 ∙ sym q.0 in
      let rules = mixes c d p.1 q.1 in
      let keys = keyed_alike (likely d.rules.expander) (lent c.rules.rules) (lent d.rules.rules) (turns c d p.1 q.1) d.values.keywords.now
      d.values.fields.now in
      each_alike line text a syntax (λ x. IsKeyed (mixed c d) (bare x)) (λ x. IsKeyed (whole_rules d) (bare x)) (λ x. IsKeyed (mixed c d) (keyed two x))
      (λ x. IsKeyed (whole_rules d) (keyed two x)) (λ x. keys (bare x) text a) (λ x. keys (keyed two x) text a)
      (subst (λ (z : KeyOf × WholeRules). IsAnswerOf syntax (λ x. IsKeyed z.1 (bare x)) (λ x. IsKeyed z.1 (keyed z.0 x)) line text a)
      (λ i. (kinds i, rules i)) says)
  by_key of one c two p q says = absurd q

  by_validate : (v : Bor Validity) (two : Tools) → AreToolsOver syntax task.Validate h (tools.Validate v) → AreToolsOver syntax task.Validate k two
      → Says (tools.Validate v) → Says two
  by_validate v (tools.Validate w) p q says =
      subst (λ r. IsAnswerOf syntax (λ x. IsReported r line (bare x)) (IsReported r line) line text a)
      (same_Some v.now w.now (sym p ∙ (λ i. (same.tables.supplement i).validity) ∙ q)) says
  by_validate v two p q says = absurd q

  by_subtag : (chain : SubtagChain) (preferences : DisplayNamesPreferences) (n : SubtagNaming) (two : Tools) → IsSubtagNamingOf chain preferences h.tables n
      → AreToolsOver syntax (task.SubtagName chain preferences) k two → Says (tools.SubtagName n) → Says two
  by_subtag chain preferences n (tools.SubtagName m) p q says =
      let told = subtag_alike n m (p.names ∙ same.tables.names ∙ sym q.names)
      (ap (λ (t : Tables). t.menus) p.tables ∙ same.tables.menus ∙ sym (ap (λ (t : Tables). t.menus) q.tables))
      (ap (λ (t : Tables). t.essentials) p.tables ∙ same.tables.essentials ∙ sym (ap (λ (t : Tables). t.essentials) q.tables))
      (p.chain_is ∙ sym q.chain_is) (p.preferences_are ∙ sym q.preferences_are) line in
      subst (λ r. IsToldLine r text a) told says
  by_subtag chain preferences n two p q says = absurd q

  by_exemplars : (marker : ExemplarMarker) (preferences : DisplayNamesPreferences) (set : Bor ExemplarCharactersData) (two : Tools)
      → AreToolsOver syntax (task.Exemplars marker preferences) h (tools.Exemplars set) → AreToolsOver syntax (task.Exemplars marker preferences) k two
      → Says (tools.Exemplars set) → Says two
  by_exemplars marker preferences set (tools.Exemplars other) p q says =
      let sets = same_Some set.now other.now (sym p ∙ ap (λ rows. value_at exemplar_cmp rows (marker, preferences.locale)) same.tables.exemplars ∙ q) in
      subst (λ z. IsToldLine (exemplar_answer z line) text a) sets says
  by_exemplars marker preferences set two p q says = absurd q

  abbrev pub AreListedBy : List ((NameMarker × DataLocale × NameKey) × List ℕ) × SubtagKind × DataLocale → Type 0
  AreListedBy z = (keys : List NameKey) × AreNamedKeys z.0 (markers_of z.1) z.2 keys × (text ≡ members (began z.1 line keys) ++ codes "\n") × (a ≡ true)

  by_subtags : (kind : SubtagKind) (preferences : DisplayNamesPreferences) (list : SubtagList) (two : Tools)
      → AreToolsOver syntax (task.Subtags kind preferences) h (tools.Subtags list) → AreToolsOver syntax (task.Subtags kind preferences) k two
      → Says (tools.Subtags list) → Says two
  by_subtags kind preferences list (tools.Subtags other) p q says =
      let names = ap all_names p.0 ∙ same.tables.names ∙ sym (ap all_names q.0) in
      let kinds = p.1 ∙ sym q.1 in
      let locales = p.2 ∙ sym q.2 in
      subst AreListedBy (λ i. (names i, kinds i, locales i)) says
  by_subtags kind preferences list two p q says = absurd q

  by_parts : (two : Tools) → AreToolsOver syntax task.Parts k two → Says tools.Parts → Says two
  by_parts tools.Parts q says = says
  by_parts two q says = absurd q

  pub tools_alike : (kind : Task) (one two : Tools) → AreToolsOver syntax kind h one → AreToolsOver syntax kind k two → Says one → Says two
  tools_alike (task.Form form) (tools.Form one e) two p q says = by_transform form one e two p q says
  tools_alike task.Canonicalize (tools.Canonicalize c) two p q says = by_canonicalize c two p q says
  tools_alike task.Direction (tools.Direction d) two p q says = by_direction d two p q says
  tools_alike task.Negotiate (tools.Negotiate n o) two p q says = by_negotiate n o two p q says
  tools_alike (task.Name chain preferences) (tools.Name n) two p q says = by_name chain preferences n two p q says
  tools_alike task.Fallback (tools.Fallback f) two p q says = by_fallback f two p q says
  tools_alike (task.Serve served) (tools.Serve one s o) two p q says = by_serve served one s o two p q says
  tools_alike task.Distance (tools.Distance e m) two p q says = by_distance e m two p q says
  tools_alike task.Parts tools.Parts two p q says = by_parts two q says
  tools_alike (task.Key of) (tools.Key one c) two p q says = by_key of one c two p q says
  tools_alike task.Validate (tools.Validate v) two p q says = by_validate v two p q says
  tools_alike (task.SubtagName chain preferences) (tools.SubtagName n) two p q says = by_subtag chain preferences n two p q says
  tools_alike (task.Exemplars marker preferences) (tools.Exemplars set) two p q says = by_exemplars marker preferences set two p q says
  tools_alike (task.Subtags kind preferences) (tools.Subtags list) two p q says = by_subtags kind preferences list two p q says
  tools_alike kind one two p q says = absurd p

-- with places or without
module _ (once : SpelledOnce) (c : LineCommand) (h k : Held) (same : HoldTheSame h k) (line : List ℕ) where
  at_alike : (places : Bool) (one two : Tools) → AreToolsOver c.syntax c.task h one → AreToolsOver c.syntax c.task k two → (text : List ℕ) (a : Bool)
      → IsAnswerAt places c.syntax one line text a → IsAnswerAt places c.syntax two line text a
  at_alike false one two p q text a says = tools_alike once c.syntax h k same line text a c.task one two p q says
  at_alike true one two p q text a (plain_text, says, told) = (plain_text, tools_alike once c.syntax h k same line plain_text a c.task one two p q says, told)

  pub works_alike : (one two : Work) (text : List ℕ) (a : Bool) → IsWorkOver c h one → IsWorkOver c k two → IsAnswer one line text a → IsAnswer two line text a
  works_alike one two text a p q says =
      subst (λ (z : Bool × Option Syntax). IsAnswerAt z.0 z.1 two.tools line text a) (λ i. (sym q.places i, sym q.syntax i))
      (at_alike c.places one.tools two.tools p.tools q.tools text a
      (subst (λ (z : Bool × Option Syntax). IsAnswerAt z.0 z.1 one.tools line text a) (λ i. (p.places i, p.syntax i)) says))

-- what is held says the same as itself
pub same_held : (h : Held) → HoldTheSame h h
same_held h = record {
  tables = same_tables h.tables h.tables (record { rows = refl; supplement = refl; lent = refl });
  available = refl;
  wholes = refl;
}
