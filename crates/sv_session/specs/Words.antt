-- The request that was read from the words, as what they may ask for.
use Rattle.sv_session.specs.declared.words.Request.{Request}
use Rattle.sv_session.specs.declared.words.Request.TheVariants.{Cat, Check, Mkfs, Replay}
use Rattle.sv_session.specs.Command.{Command, cat, check, mkfs, replay}

-- the command that a request is
abbrev pub asked : Request → Command
asked (Cat image inode) = cat image.now inode
asked (Check image) = check image.now
asked (Mkfs image blocks inodes) = mkfs image.now blocks inodes
asked (Replay image journal) = replay image.now journal.now
