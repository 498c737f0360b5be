-- The number and the word of each condition of a sound image.
use Rattle.std.specs.Prelude.{ℕ, List, codes}
use Rattle.sv_check.specs.declared.condition.Condition.{Condition}
use Rattle.sv_check.specs.declared.condition.Condition.TheVariants.{Magic, BlockSize, Sizes, Kind, Size, Range, Twice, PastSize}
use Rattle.sv_check.specs.declared.condition.Condition.TheVariants.{Tail, FreeChain, Lost, CachedInode, Root, Entry, Dots, Links}

abbrev pub number_of : Condition → ℕ
number_of Magic = 1
number_of BlockSize = 2
number_of Sizes = 3
number_of Kind = 4
number_of Size = 5
number_of Range = 6
number_of Twice = 7
number_of PastSize = 8
number_of Tail = 9
number_of FreeChain = 10
number_of Lost = 11
number_of CachedInode = 12
number_of Root = 13
number_of Entry = 14
number_of Dots = 15
number_of Links = 16

abbrev pub word_of : Condition → List ℕ
word_of Magic = codes "Magic"
word_of BlockSize = codes "BlockSize"
word_of Sizes = codes "Sizes"
word_of Kind = codes "Kind"
word_of Size = codes "Size"
word_of Range = codes "Range"
word_of Twice = codes "Twice"
word_of PastSize = codes "PastSize"
word_of Tail = codes "Tail"
word_of FreeChain = codes "FreeChain"
word_of Lost = codes "Lost"
word_of CachedInode = codes "CachedInode"
word_of Root = codes "Root"
word_of Entry = codes "Entry"
word_of Dots = codes "Dots"
word_of Links = codes "Links"
