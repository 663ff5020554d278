-- The longest sheet has 2,545 bytes and is accepted: both are computed.
use mathlib.Core.Path.{◌≡◌, refl}
use mathlib.Core.List.{flat_map}
use lib.ListN.{length}
use Rattle.layout.specs.Layout.{accepted, cause, read_from, reading}
use Rattle.layout.specs.Encode.{encode}
use Rattle.longest_sheet.specs.LongestSheet.{longest_sheet}

pub longest_length : length (encode longest_sheet) ≡ 2545
unfolding encode flat_map longest_sheet
longest_length = refl

pub longest_read : reading (encode longest_sheet) ≡ accepted longest_sheet
unfolding encode flat_map longest_sheet reading read_from cause
longest_read = refl
