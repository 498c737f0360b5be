use Rattle.std.proofs.Common.{◌∙◌, ◌++◌, ◌∷◌, [], ap, map}
use Rattle.std.proofs.lemmas.List.{map-append}
use Rattle.sv_plain.specs.Front.{size_of}
use Rattle.sv_check.specs.InodeList.{is_directory}
use Rattle.sv_check.specs.Pages.{kept_of}
use Rattle.sv_check.proofs.KeptDirectories.{kept_pushed}
use Rattle.sv_check.proofs.sound.whole_walk.keep_directory.Goals as goal

pub returns : goal.returns
returns c = λ reads.
    ap (map kept_of) c.in_ok-push.ensures.items
    ∙ map-append kept_of c.args.directories.now.items (record { inode = c.args.n; size = c.in-Some.size; pages = c.replace-pages.result } ∷ [])
    ∙ ap (λ v. map kept_of c.args.directories.now.items ++ record { inode = c.args.n; size = c.in-Some.size; pages = v.items } ∷ []) c.replace-pages.ensures.value
    ∙ kept_pushed (is_directory c.args.inode.now) c.args.n (size_of c.args.inode.now) c.in-Some.size c.args.pages.now.items (map kept_of c.args.directories.now.items)
    (c.in-Some.ensures c.args.inode.now c.read_line.ensures reads)
