-- The chains that names of languages are made by.
use Rattle.std.specs.Prelude.{ℕ, List, [], ◌∷◌, codes}
use Rattle.icu_provider.specs.declared.names.MenuMarker.{MenuMarker}
use Rattle.icu_provider.specs.declared.names.MenuMarker.TheVariants.{MediumLight, MediumHeavy}
use Rattle.icu_provider.specs.declared.names.NameMarker.{NameMarker}
use Rattle.icu_provider.specs.declared.names.NameMarker.TheVariants.{
  LanguageMediumTiny,
  LanguageMediumLight,
  LanguageMediumHeavy,
  LanguageShortLight,
  LanguageShortHeavy,
  LanguageLongLight,
  LanguageLongHeavy,
}
use Rattle.icu_locale_names.specs.declared.name_chain.NameChain.{NameChain}
use Rattle.icu_locale_names.specs.declared.name_chain.NameChain.TheVariants as chain
use Rattle.icu_locale_names.specs.Chains.{region_tiny, region_light, region_short_light, script_tiny, script_light, script_heavy, script_short_heavy}

-- the kinds of names that are asked for: of the language in menus and in texts, and of its script
-- and its region as qualifiers
pub record LanguageChain : Type 0 where
  pub menu : List MenuMarker
  pub text : List NameMarker
  pub script : List NameMarker
  pub region : List NameMarker

-- names in texts of medium length, the light ones and the tiny ones
abbrev pub light_texts : List NameMarker
light_texts = LanguageMediumLight ∷ LanguageMediumTiny ∷ []

-- names in texts of medium length, the heavy ones too
abbrev pub heavy_texts : List NameMarker
heavy_texts = LanguageMediumHeavy ∷ light_texts

-- names in texts, the short ones first
abbrev pub short_heavy_texts : List NameMarker
short_heavy_texts = LanguageShortHeavy ∷ LanguageShortLight ∷ heavy_texts

-- names in menus, the heavy ones first
abbrev pub heavy_menus : List MenuMarker
heavy_menus = MediumHeavy ∷ MediumLight ∷ []

-- the kinds that a chain asks for
abbrev pub chain_of : NameChain → LanguageChain
chain_of chain.Tiny = record {
  menu = [];
  text = LanguageMediumTiny ∷ [];
  script = script_tiny;
  region = region_tiny;
}
chain_of chain.Light = record {
  menu = [];
  text = light_texts;
  script = script_light;
  region = region_light;
}
chain_of chain.ShortLight = record {
  menu = [];
  text = LanguageShortLight ∷ light_texts;
  script = script_light;
  region = region_short_light;
}
chain_of chain.LongLight = record {
  menu = [];
  text = LanguageLongLight ∷ light_texts;
  script = script_light;
  region = region_light;
}
chain_of chain.MenuLight = record {
  menu = MediumLight ∷ [];
  text = light_texts;
  script = script_light;
  region = region_light;
}
chain_of chain.ShortMenuLight = record {
  menu = MediumLight ∷ [];
  text = LanguageShortLight ∷ light_texts;
  script = script_light;
  region = region_short_light;
}
chain_of chain.Heavy = record {
  menu = [];
  text = heavy_texts;
  script = script_heavy;
  region = region_light;
}
chain_of chain.ShortHeavy = record {
  menu = [];
  text = short_heavy_texts;
  script = script_short_heavy;
  region = region_short_light;
}
chain_of chain.LongHeavy = record {
  menu = [];
  text = LanguageLongHeavy ∷ LanguageLongLight ∷ heavy_texts;
  script = script_heavy;
  region = region_light;
}
chain_of chain.MenuHeavy = record {
  menu = heavy_menus;
  text = heavy_texts;
  script = script_heavy;
  region = region_light;
}
chain_of chain.ShortMenuHeavy = record {
  menu = heavy_menus;
  text = short_heavy_texts;
  script = script_short_heavy;
  region = region_short_light;
}

-- the word of each chain
abbrev pub chain_word : NameChain → List ℕ
chain_word chain.Tiny = codes "tiny"
chain_word chain.Light = codes "light"
chain_word chain.ShortLight = codes "short-light"
chain_word chain.LongLight = codes "long-light"
chain_word chain.MenuLight = codes "menu-light"
chain_word chain.ShortMenuLight = codes "short-menu-light"
chain_word chain.Heavy = codes "heavy"
chain_word chain.ShortHeavy = codes "short-heavy"
chain_word chain.LongHeavy = codes "long-heavy"
chain_word chain.MenuHeavy = codes "menu-heavy"
chain_word chain.ShortMenuHeavy = codes "short-menu-heavy"
