-- Interface. A sheet with the most of everything (docs/FORMAT.md, "The sheet").
use Rattle.std.specs.Prelude.{true, [], ◌∷◌, map, replicate}
use Rattle.prelude.specs.Lists.{firsts}
use Rattle.logic.specs.Sheet.{Sheet}

-- a name without arguments and 63 of two, its expression and 127 that apply one name to the
-- expression before, twice; and a fill of every name by the first expression
unfoldable pub longest_sheet : Sheet
longest_sheet =
    record {
      bounds = replicate 8 (record { floor = 1; ceiling = 16 });
      symbols = record { result = 0; params = [] } ∷ replicate 63 (record { result = 0; params = 0 ∷ 0 ∷ [] });
      terms = record { symbol = 0; args = [] } ∷ map (λ i. record { symbol = 1; args = i ∷ i ∷ [] }) (firsts 127 (λ i. i));
      literals = replicate 128 (record { equal = true; left = 0; right = 0 });
      fills = map (λ f. record { symbol = f; term = 0 }) (firsts 64 (λ f. f));
      total = 128;
    }
