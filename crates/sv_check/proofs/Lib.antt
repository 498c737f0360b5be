mod AddressSteps
mod BlockBytes
pub mod BooleanTests
pub mod CacheSteps
pub mod ChainMet
pub mod ChainStart
pub mod ChainWalk
mod ClimbSteps
mod DirectorySteps
mod EntryFlaws
mod EntryParts
pub mod EntryReads
mod EntryTakes
pub mod FileBlocks
pub mod FileTexts
mod FileWalks
pub mod Flaws
mod FreeBlocks
mod GoodEntries
pub mod InodeReads
pub mod InodeSteps
mod KeptDirectories
pub mod LineReads
pub mod ListReads
mod LoadSteps
mod LoadedNodes
pub mod LoadedTree
mod LoadsLeft
mod MadeImages
mod MadeRows
mod MakingSteps
mod MkfsRows
mod MkfsSteps
mod NestedImages
mod OwnedBlocks
mod OwnedLines
mod PageFinds
mod PageOrder
mod PutSteps
mod ReachedBlocks
mod ReadyDirectories
mod SeenSteps
mod SizedImages
pub mod SizeFlaws
mod SmallImages
pub mod SoundParts
mod StandingSteps
mod ToldDots
mod ToldEntries
mod ToldPlaces
mod ToldTimes
pub mod TreeBytes
pub mod TreeCounts
pub mod TreeDirectories
pub mod TreeNamings
pub mod TreeNodes
pub mod WalkMet
mod WalkSteps
mod WholeBlocks
mod WholeEntries
pub mod WholeNodes
pub mod WholeTree
mod WholeWalk
mod MadeCache
mod MadeDirectories
mod MadeInodes
mod MadeChain
mod MadeChains
mod MadeLengths
mod MadeLists
mod MadeParts
mod MadeSized
mod MadeSound
mod MadeSuper
mod MadeWalk
mod SpelledNumbers
mod FreedLists
