-- Names in the flat form, compared with those that were written: each has what the other has.
use Rattle.std.proofs.Common.{◌≡◌, ℕ, Bool, true, false, cond, List, [], ◌∷◌, ◌++◌, Option, Some, None, refl, sym, ap, ◌∙◌, is_eq, filter_map}
use Rattle.std.specs.Prelude.{if◌then◌else◌}
use Rattle.std.specs.List.{AllByRecursion, cons_option}
use Rattle.std.specs.declared.cmp.Ordering.{Ordering}
use Rattle.std.specs.declared.cmp.Ordering.TheVariants.{Less, Equal, Greater}
use Rattle.std.proofs.lemmas.Bool.{false≢true}
use Rattle.std.proofs.lemmas.Option.{none-some}
use Rattle.icu_locale_core.specs.Maps.{value_at}
use Rattle.icu_provider.specs.Requests.{name_cmp}
use Rattle.icu_provider.specs.SortedMaps.{TiesEqualAlone}
use Rattle.icu_provider.specs.declared.data_locale.DataLocale.{DataLocale}
use Rattle.icu_provider.specs.declared.names.NameKey.{NameKey}
use Rattle.icu_provider.specs.declared.names.NameMarker.{NameMarker}
use Rattle.icu_tables.specs.Groups.{NameGroup, Names, flat_names, group_rows, request_of}
use Rattle.icu_tables.specs.LentNames.{keyed, keyed_group, keyed_row}
use Rattle.icu_tables.specs.Tables.{is_of_kind, name_in}
use Rattle.icu_tables.specs.inner.Told.{AreToldBy, IsToldBy}

abbrev Request : Type 0
Request = NameMarker × DataLocale × NameKey

abbrev Rows : Type 0
Rows = List (Request × List ℕ)

-- what holds of each of two lists holds of both
all_of_both : {A : Type 0} (P : A → Type 0) (a b : List A) → AllByRecursion P a → AllByRecursion P b → AllByRecursion P (a ++ b)
all_of_both P [] b each more = more
all_of_both P (x ∷ a) b each more = (each.0, all_of_both P a b each.1 more)

all_then : {A : Type 0} (P : A → Type 0) (a b : List A) → AllByRecursion P (a ++ []) → AllByRecursion P b → AllByRecursion P (a ++ b)
all_then P [] b each more = more
all_then P (x ∷ a) b each more = (each.0, all_then P a b each.1 more)

-- ---- walks: a row more, and a group more

abbrev Texts : Type 0
Texts = List (List ℕ × List ℕ)

module _ (rows : Rows) where
  pub told_group : (group : NameGroup × Names) (groups : List (NameGroup × Names)) → AreToldBy rows (group_rows request_of group.0 group.1)
      → AreToldBy rows (flat_names groups) → AreToldBy rows (flat_names (group ∷ groups))
  told_group group groups here more = all_of_both (IsToldBy rows) (group_rows request_of group.0 group.1) (flat_names groups) here more

  pub told_text : (g : NameGroup) (m : NameMarker) (row : List ℕ × List ℕ) (texts : Texts)
      → AreToldBy rows (group_rows request_of g (keyed m (row ∷ []))) → AreToldBy rows (group_rows request_of g (keyed m texts))
      → AreToldBy rows (group_rows request_of g (keyed m (row ∷ texts)))
  told_text g m row texts here more = by (keyed_row m row) here
    where
      by : (o : Option (NameKey × List ℕ)) → AreToldBy rows (group_rows request_of g (cons_option o []))
          → AreToldBy rows (group_rows request_of g (cons_option o (keyed m texts)))
      by None here = more
      by (Some row) here = (here.0, more)

  pub told_texts : (named : List ℕ × Texts) (others : List (List ℕ × Texts)) → AreToldBy rows (flat_names (filter_map keyed_group (named ∷ [])))
      → AreToldBy rows (flat_names (filter_map keyed_group others)) → AreToldBy rows (flat_names (filter_map keyed_group (named ∷ others)))
  told_texts named others here more = by (keyed_group named) here
    where
      by : (o : Option (NameGroup × Names)) → AreToldBy rows (flat_names (cons_option o []))
          → AreToldBy rows (flat_names (cons_option o (filter_map keyed_group others)))
      by None here = more
      by (Some group) here = all_then (IsToldBy rows) (group_rows request_of group.0 group.1) (flat_names (filter_map keyed_group others)) here more

-- ---- look-ups

is_equal : (o : Ordering) → is_eq o ≡ true → o ≡ Equal
is_equal Less h = absurd (false≢true h)
is_equal Equal h = refl
is_equal Greater h = absurd (false≢true h)

module _ (ties : TiesEqualAlone name_cmp) where
  -- what rows tell of others, they tell of each name that is found among them
  told_at : (rows others : Rows) (r : Request) (t : List ℕ) → AreToldBy rows others → value_at name_cmp others r ≡ Some t
      → is_of_kind r.0 r.2 ≡ true → value_at name_cmp rows r ≡ Some t
  told_at rows [] r t told is kind = absurd (none-some t is)
  told_at rows (row ∷ others) r t told is kind = by (is_eq (name_cmp r row.0)) refl is (λ found. told_at rows others r t told.1 found kind)
    where
      by : (tied : Bool) → is_eq (name_cmp r row.0) ≡ tied → cond tied (Some row.1) (value_at name_cmp others r) ≡ Some t
          → (value_at name_cmp others r ≡ Some t → value_at name_cmp rows r ≡ Some t) → value_at name_cmp rows r ≡ Some t
      by true same found later =
          let own : r ≡ row.0 = (ties r row.0).0 (is_equal (name_cmp r row.0) same) in
          ap (value_at name_cmp rows) own
          ∙ told.0 (ap (λ q. is_of_kind q.0 q.2) (sym own) ∙ kind)
          ∙ found
      by false other found later = later found

  same_found : (o p : Option (List ℕ)) → ((t : List ℕ) → o ≡ Some t → p ≡ Some t) → ((t : List ℕ) → p ≡ Some t → o ≡ Some t) → o ≡ p
  same_found (Some s) p there back = sym (there s refl)
  same_found None (Some t) there back = back t refl
  same_found None None there back = refl

  -- rows of which each tells the other's names have the same names
  pub told_alike : (rows others : Rows) → AreToldBy rows others → AreToldBy others rows
      → (marker : NameMarker) (locale : DataLocale) (key : NameKey) → name_in rows marker locale key ≡ name_in others marker locale key
  told_alike rows others told also marker locale key = by (is_of_kind marker key) refl
    where
      r : Request
      r = (marker, locale, key)

      by : (kind : Bool) → is_of_kind marker key ≡ kind
          → (if kind then value_at name_cmp rows r else None) ≡ (if kind then value_at name_cmp others r else None)
      by true kind = same_found _ _ (λ t is. told_at others rows r t also is kind) (λ t is. told_at rows others r t told is kind)
      by false kind = refl
