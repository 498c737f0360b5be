-- What a host in memory holds under each name, and its counts.
use Rattle.std.specs.Prelude.{◌≡◌, ◌≢◌, ℕ, List, [], Option}
use Rattle.std.specs.Option.{option_map, option_map_or}
use Rattle.std.specs.HashMap.{get_by_text}
use Rattle.sv_dev.specs.MemHostSeen.{HostCounts}
use Rattle.sv_dev.specs.declared.mem_disk.Fail.{Fail}
use Rattle.sv_dev.specs.declared.mem_host.MemHost.{MemHost}

-- the image under the name
abbrev pub image_under : MemHost → List ℕ → Option (List ℕ)
image_under host name = option_map (λ image. image.content.items) (get_by_text host.images name)

-- which calls fail of a disk over the image under the name; none where the name is not there
abbrev pub fails_under : MemHost → List ℕ → List Fail
fails_under host name = option_map_or (λ image. image.fails.items) (get_by_text host.images name) []

-- the text under the name
abbrev pub text_under : MemHost → List ℕ → Option (List ℕ)
text_under host name = option_map (λ text. text.items) (get_by_text host.texts name)

abbrev pub counts_of : MemHost → HostCounts
counts_of host = record {
  fails = host.tally.fails;
  calls = host.tally.calls;
  faults = host.tally.faults;
  disk_faults = host.disk_faults;
  source_faults = host.source_faults;
  sink_faults = host.sink_faults;
  asked = host.asked;
}

-- under this name stands the image that stood there
pub record SameImage (old new : MemHost) (name : List ℕ) : Type 0 where
  pub image : image_under new name ≡ image_under old name
  pub fails : fails_under new name ≡ fails_under old name

-- under each name stands the image that stood there
abbrev pub SameImages : MemHost → MemHost → Type 0
SameImages old new = (name : List ℕ) → SameImage old new name

-- under each other name stands the image that stood there
abbrev pub SameOtherImages : MemHost → MemHost → List ℕ → Type 0
SameOtherImages old new name = (other : List ℕ) → other ≢ name → SameImage old new other

-- under each name stands the text that stood there
abbrev pub SameTexts : MemHost → MemHost → Type 0
SameTexts old new = (name : List ℕ) → text_under new name ≡ text_under old name

-- under each other name stands the text that stood there
abbrev pub SameOtherTexts : MemHost → MemHost → List ℕ → Type 0
SameOtherTexts old new name = (other : List ℕ) → other ≢ name → text_under new other ≡ text_under old other
