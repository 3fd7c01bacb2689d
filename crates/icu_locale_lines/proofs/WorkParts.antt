-- What works are made of: services, names and chains over tables that say the same.
use Rattle.std.proofs.Common.{◌≡◌, ℕ, Bool, List, Option, Some, None, ap, sym, subst, ◌∙◌, inl, inr}
use Rattle.std.specs.Prelude.{if◌then◌else◌}
use Rattle.std.specs.Borrow.{Bor}
use Rattle.std.specs.List.{AllZip}
use Rattle.std.specs.Option.{option_copied}
use Rattle.std.specs.Str.{is_utf8}
use Rattle.std.proofs.lemmas.Option.{same_Some, none-some}
use Rattle.icu_locale_core.specs.Maps.{value_at}
use Rattle.icu_locale_core.specs.Subtag.{is_language, is_region, is_script, is_variant, lowercase, titlecase, uppercase}
use Rattle.icu_locale_core.specs.declared.langid.LanguageIdentifier.{LanguageIdentifier}
use Rattle.icu_locale_core.specs.declared.parse_error.ParseError.{ParseError}
use Rattle.icu_locale_core.specs.declared.parse_error.ParseError.TheVariants.{InvalidLanguage, InvalidSubtag}
use Rattle.icu_provider.specs.Requests.{locale_cmp, menu_cmp}
use Rattle.icu_provider.specs.declared.extension_names.ExtensionNames.{ExtensionNames}
use Rattle.icu_provider.specs.declared.names.NameKey.TheVariants as key
use Rattle.icu_tables.specs.Tables.{held, name_in}
use Rattle.icu_tables.specs.Supplement.{matching_rows}
use Rattle.icu_locale.specs.LikelySubtags.{LikelySubtags}
use Rattle.icu_locale.specs.LikelyTable.{likely}
use Rattle.icu_locale_extensions.specs.Syntaxes.{IsFaultBy}
use Rattle.icu_locale_extensions.specs.declared.identifier.LocaleIdentifier.{LocaleIdentifier}
use Rattle.icu_locale_extensions.specs.declared.syntax.Syntax.{Syntax}
use Rattle.icu_locale_fallback.specs.Chains.{parents_of}
use Rattle.icu_locale_fallback.specs.Fallback.{Inheritance}
use Rattle.icu_locale_fallback.specs.Identifiers.{plain, normal_identifier, next_identifier, IsIdentifierChain}
use Rattle.icu_locale_fallback.specs.declared.fallbacker.LocaleFallbackerWithConfig.{LocaleFallbackerWithConfig}
use Rattle.icu_locale_runs.specs.Run.{IsRepeat}
use Rattle.icu_locale_full_names.specs.FullNames.{full_name_of}
use Rattle.icu_locale_names.specs.LanguageChains.{chain_of}
use Rattle.icu_locale_names.specs.LanguageNames.{in_locale, name_of}
use Rattle.icu_locale_names.specs.Names.{name_by}
use Rattle.icu_locale_names.specs.declared.options.LanguageDisplay.TheVariants.{Dialect}
use Rattle.icu_locale_matching.specs.Nearest.{IsNearest, all_may, may_of, question}
use Rattle.icu_locale_matching.specs.Requests.{AreCanonical, AreRefusals, AreRequests}
use Rattle.icu_locale_matching.specs.Header.{refused, refuses_any, wanted}
use Rattle.icu_locale_matching.specs.Service.{Service, IsNearestTo, IsServed, allowed, matching_of, place_of}
use Rattle.icu_locale_matching.specs.declared.matcher.Match.{Match}
use Rattle.icu_locale_matching.specs.Distance.{favored}
use Rattle.icu_locale_lines.specs.Answers.{IsAnswerOf}
use Rattle.icu_locale_lines.specs.Chains.{IsChained, inheritance_of, start_of}
use Rattle.icu_locale_lines.specs.Lists.{IsFault, IsFirstFault, SpellsAll, SpellsIn, SpellsWanted, SpellsWhole, ids_of, listed}
use Rattle.icu_locale_lines.specs.Names.{answers_in, name_asked, name_asked_with}
use Rattle.icu_locale_lines.specs.Readings.{IsReadAnswer}
use Rattle.icu_locale_lines.specs.Serving.{IsNearestLine, IsResolvedLine, IsWishAnswerTo, TellsResolved, TellsServed, place_or_first}
use Rattle.icu_locale_lines.specs.Subtags.{language_line, of_language, refusal_of, refused as refused_subtag, region_markers, script_markers, subtag_answer, subtag_line, told_by}
use Rattle.icu_locale_names.specs.Chains.{variant_heavy}
use Rattle.icu_locale_lines.specs.declared.command.ServeTask.{ServeTask}
use Rattle.icu_locale_lines.specs.declared.command.Wishes.{Wishes}
use Rattle.icu_locale_lines.specs.declared.command.Wishes.TheVariants.{Header, Requests, Resolved}
use Rattle.icu_locale_lines.specs.declared.work.name.Naming.{Naming}
use Rattle.icu_locale_lines.specs.declared.work.subtag.SubtagChain.{SubtagChain}
use Rattle.icu_locale_lines.specs.declared.work.subtag.SubtagChain.TheVariants as subtag
use Rattle.icu_locale_lines.specs.declared.work.subtag.SubtagNaming.{SubtagNaming}
use Rattle.icu_locale_lines.proofs.MatchingAlike.{favored_alike, nearest_over_alike, over}
use Rattle.icu_locale_lines.proofs.RunsAlike.{TurnAlike, forms_alike, refusals_alike, requests_alike}

-- ---- what is read is answered alike where its line is

module _ (line text : List ℕ) (a : Bool) where
  pub read_alike : {A : Type 0} (Reads : List ℕ → A → Type 0) (Faults : List ℕ → ParseError → Type 0) (L M : A → List ℕ → Bool → Type 0)
      → ((x : A) → L x text a → M x text a) → IsReadAnswer Reads Faults L line text a → IsReadAnswer Reads Faults M line text a
  read_alike Reads Faults L M moved (inl (x, reads, is)) = inl (x, reads, moved x is)
  read_alike Reads Faults L M moved (inr why) = inr why

  pub each_alike : (syntax : Option Syntax) (L M : LanguageIdentifier → List ℕ → Bool → Type 0) (V W : LocaleIdentifier → List ℕ → Bool → Type 0)
      → ((x : LanguageIdentifier) → L x text a → M x text a) → ((x : LocaleIdentifier) → V x text a → W x text a)
      → IsAnswerOf syntax L V line text a → IsAnswerOf syntax M W line text a
  each_alike None L M V W alone whole says = read_alike (SpellsIn None) IsFault L M alone says
  each_alike (Some s) L M V W alone whole says = read_alike (SpellsWhole s) (IsFaultBy s) V W whole says

-- ---- services

module _ (s u : Service) (table : likely s.expander ≡ likely u.expander) (turns : TurnAlike (likely u.expander) s.rules u.rules)
    (matching : matching_rows s.matching ≡ matching_rows u.matching) (limits : s.limits ≡ u.limits) (available : s.available ≡ u.available) where
  asks_alike : (canonical requests : List LanguageIdentifier) (may : ℕ → Bool) (found : Option Match)
      → IsNearest (question (matching_of s canonical) requests may) found → IsNearest (question (matching_of u canonical) requests may) found
  asks_alike canonical requests may found h =
      let asked : question (matching_of s canonical) requests may
      ≡ over (question (matching_of u canonical) requests may) (favored u.limits.favor s.matching) = λ i. record {
        likely = table i;
        matching = favored (limits i).favor s.matching;
        limits = limits i;
        requests = requests;
        available = canonical;
        may = may;
      } in
      nearest_over_alike (question (matching_of u canonical) requests may) (favored u.limits.favor s.matching) (favored u.limits.favor u.matching)
      (favored_alike u.limits.favor s.matching u.matching matching) found (subst (λ q. IsNearest q found) asked h)

  canonical_alike : (canonical : List LanguageIdentifier) → AreCanonical (likely s.expander) s.rules s.available canonical
      → AreCanonical (likely u.expander) u.rules u.available canonical
  canonical_alike canonical h = forms_alike (likely u.expander) s.rules u.rules turns u.available canonical
      (subst (λ (z : LikelySubtags × List LanguageIdentifier). AreCanonical z.0 s.rules z.1 canonical) (λ i. (table i, available i)) h)

  served_alike : (header : List ℕ) (place : Option ℕ) → IsServed s header place → IsServed u header place
  served_alike header place h = let served = h.served in record {
    wishes = h.wishes;
    sorted = h.sorted;
    served = record {
      requests = served.requests;
      requested = requests_alike (likely u.expander) s.rules u.rules turns (wanted h.wishes) served.requests
          (subst (λ l. AreRequests l s.rules (wanted h.wishes) served.requests) table served.requested);
      out = served.out;
      taken_out = refusals_alike (likely u.expander) s.rules u.rules turns (refused h.wishes) served.out
          (subst (λ l. AreRefusals l s.rules (refused h.wishes) served.out) table served.taken_out);
      canonical = served.canonical;
      canonicalized = canonical_alike served.canonical served.canonicalized;
      choice = record {
        found = served.choice.found;
        nearest = asks_alike served.canonical served.requests
            (may_of (allowed served.requests served.out (refuses_any h.wishes) served.canonical)) served.choice.found served.choice.nearest;
        is = served.choice.is;
      };
    };
  }

  nearest_alike : (requests : List LanguageIdentifier) (found : Option Match) → IsNearestTo s requests found → IsNearestTo u requests found
  nearest_alike requests found h = record {
    asked = h.asked;
    requested = forms_alike (likely u.expander) s.rules u.rules turns requests h.asked
        (subst (λ l. AreCanonical l s.rules requests h.asked) table h.requested);
    canonical = h.canonical;
    canonicalized = canonical_alike h.canonical h.canonicalized;
    nearest = asks_alike h.canonical h.asked all_may found h.nearest;
  }

  module _ (how : ServeTask) (ws vs : List LocaleIdentifier) (wholes : ws ≡ vs) (line text : List ℕ) (a : Bool) where
    tells_alike : (place : Option ℕ) → TellsServed s.available ws (place_or_first how s.available place) text
        → TellsServed u.available vs (place_or_first how u.available place) text
    tells_alike place = subst (λ (z : List LanguageIdentifier × List LocaleIdentifier). TellsServed z.0 z.1 (place_or_first how z.0 place) text)
        (λ i. (available i, wholes i))

    resolved_alike : (wanted : List LocaleIdentifier) (found : Option Match) → TellsResolved how s.available ws wanted found text
        → TellsResolved how u.available vs wanted found text
    resolved_alike wanted found = subst (λ (z : List LanguageIdentifier × List LocaleIdentifier). TellsResolved how z.0 z.1 wanted found text)
        (λ i. (available i, wholes i))

    pub wished_alike : (syntax : Option Syntax) (wishes : Wishes) → IsWishAnswerTo wishes syntax how s ws line text a
        → IsWishAnswerTo wishes syntax how u vs line text a
    wished_alike syntax Header (place, served, tells, accepted) = (place, served_alike line place served, tells_alike place tells, accepted)
    wished_alike syntax Requests says = read_alike line text a (λ t xs. SpellsAll syntax (listed t) xs) (λ t e. IsFirstFault syntax (listed t) e) (IsNearestLine how s ws) (IsNearestLine how u vs)
        (λ xs h. (h.0, nearest_alike xs h.0 h.1, tells_alike (place_of h.0) h.2, h.3)) says
    wished_alike syntax Resolved says = read_alike line text a (λ t xs. AllZip (SpellsWanted syntax) (listed t) xs) (λ t e. IsFirstFault syntax (listed t) e) (IsResolvedLine how s ws) (IsResolvedLine how u vs)
        (λ xs h. (h.0, nearest_alike (ids_of xs) h.0 h.1, resolved_alike xs h.0 h.2, h.3)) says

-- ---- names

module _ (n m : Naming) (names : n.tables.names ≡ m.tables.names) (menus : n.tables.tables.now.menus ≡ m.tables.tables.now.menus)
    (essentials : n.tables.tables.now.essentials ≡ m.tables.tables.now.essentials) (chain : n.chain ≡ m.chain)
    (preferences : n.preferences ≡ m.preferences) where
  answers_alike : answers_in n.tables n.preferences.locale ≡ answers_in m.tables m.preferences.locale
  answers_alike = λ i. in_locale (λ marker at key. held (name_in (names i) marker at key))
      (λ marker at language. held (value_at menu_cmp (menus i) (marker, at, language)))
      (λ at. held (value_at locale_cmp (essentials i) at)) (preferences i).locale

  pub asked_alike : (x : LanguageIdentifier) → name_asked n x ≡ name_asked m x
  asked_alike x = λ i. name_of (answers_alike i) (chain_of (chain i)) Dialect x

  pub asked_with_alike : (o p : Option (Bor ExtensionNames)) (x : LocaleIdentifier) → option_copied o ≡ option_copied p
      → name_asked_with n o x ≡ name_asked_with m p x
  asked_with_alike None None x same = asked_alike x.locale.id
  asked_with_alike None (Some y) x same = absurd (none-some y.now same)
  asked_with_alike (Some y) None x same = absurd (none-some y.now (sym same))
  asked_with_alike (Some y) (Some z) x same =
      let extensions = same_Some y.now z.now same in
      λ i. full_name_of (answers_alike i) (chain_of (chain i)) Dialect (extensions i) x

-- ---- subtags

module _ (n m : SubtagNaming) (names : n.tables.names ≡ m.tables.names) (menus : n.tables.tables.now.menus ≡ m.tables.tables.now.menus)
    (essentials : n.tables.tables.now.essentials ≡ m.tables.tables.now.essentials) (chain : n.chain ≡ m.chain)
    (preferences : n.preferences ≡ m.preferences) (t : List ℕ) where
  told_alike : (c : SubtagChain) → told_by n c t ≡ told_by m c t
  told_alike (subtag.Language c) = λ i. if is_language t
      then language_line (name_of (in_locale (λ marker at key. held (name_in (names i) marker at key))
      (λ marker at language. held (value_at menu_cmp (menus i) (marker, at, language)))
      (λ at. held (value_at locale_cmp (essentials i) at)) (preferences i).locale) (chain_of c) Dialect (of_language (lowercase t)))
      else refused_subtag InvalidLanguage
  told_alike (subtag.Script c) = λ i. if is_script t
      then subtag_line (titlecase t) (name_by (λ marker at key. held (name_in (names i) marker at key)) (preferences i).locale
      (key.Script (titlecase t)) (script_markers c)) else refused_subtag InvalidSubtag
  told_alike (subtag.Region c) = λ i. if is_region t
      then subtag_line (uppercase t) (name_by (λ marker at key. held (name_in (names i) marker at key)) (preferences i).locale
      (key.Region (uppercase t)) (region_markers c)) else refused_subtag InvalidSubtag
  told_alike subtag.Variant = λ i. if is_variant t
      then subtag_line (lowercase t) (name_by (λ marker at key. held (name_in (names i) marker at key)) (preferences i).locale
      (key.Variant (lowercase t)) variant_heavy) else refused_subtag InvalidSubtag

  pub subtag_alike : subtag_answer n t ≡ subtag_answer m t
  subtag_alike =
      let told = told_alike n.chain ∙ ap (λ c. told_by m c t) chain in
      λ i. if is_utf8 t then told i else refused_subtag (refusal_of (chain i))

-- ---- chains

module _ (f g : LocaleFallbackerWithConfig) (priority : f.config.priority ≡ g.config.priority)
    (table : likely f.fallbacker.expander ≡ likely g.fallbacker.expander) (parents : f.fallbacker.parents.now ≡ g.fallbacker.parents.now)
    (x : LanguageIdentifier) (text : List ℕ) (a : Bool) where
  starts_alike : ◌≡◌ {A = Inheritance × LanguageIdentifier} (inheritance_of f, start_of f x) (inheritance_of g, start_of g x)
  starts_alike = λ i. (record { priority = priority i; likely = table i; parents = parents_of (parents i) }, normal_identifier (priority i) (table i) x)

  pub chained_alike : IsChained f x text a → IsChained g x text a
  chained_alike (inl (line, accepted)) = inl (
    record {
      list = line.list;
      chain = subst (λ (z : Inheritance × LanguageIdentifier). IsIdentifierChain z.0 z.1 line.list) starts_alike line.chain;
      written = line.written;
    },
    accepted,
  )
  chained_alike (inr (endless, is, accepted)) =
      inr ((endless.0, subst (λ (z : Inheritance × LanguageIdentifier). IsRepeat (next_identifier z.0) z.1 (plain endless.0)) starts_alike endless.1), is, accepted)
