use Rattle.std.proofs.Common.{◌≡◌, ◌∙◌, ℕ, List, ap}
use Rattle.std.proofs.lemmas.Result.{on_err_weaker, on_ok_weaker}
use Rattle.sv_check.specs.FilePages.{file_pages}
use Rattle.sv_session.proofs.FileShown.{IsFound, found, leaves_front, shows, shows_front}
use Rattle.sv_session.proofs.cat.cat_sound.Goals as goal

pub returns-clause-done : goal.returns-clause-done
returns-clause-done g c =
    let image : List ℕ = g.D.Disk.content c.args.disk.now in
    let are : c.deref.result.now ≡ file_pages c.args.sizes.now image c.args.inode =
    c.deref.ensures.value ∙ c.in_ok-pages.ensures.pages ∙ ap (λ (im : List ℕ). file_pages c.args.sizes.now im c.in_ok-number.number) c.in_ok-number.ensures.content
    ∙ ap (λ (k : ℕ). file_pages c.args.sizes.now image k) c.in_ok-number.ensures.number.0 in
    let is : IsFound image c.args.inode _ =
    found image c.args.inode c.in_ok-number.size c.requires.sound c.in_ok-number.ensures.size c.args.sizes.now _ c.deref.result.now c.requires.sizes c.in_ok-number.ensures.number.1
    (c.in_ok-pages.ensures.content ∙ c.in_ok-number.ensures.content) are in
    on_ok_weaker c.write_file.result (shows image c.args.inode _ is (g.O.Sink.written c.args.out.now) (g.O.Sink.written c.write_file.new.out)) c.write_file.ensures.ok

pub returns-clause-left : goal.returns-clause-left
returns-clause-left g c =
    let image : List ℕ = g.D.Disk.content c.args.disk.now in
    let are : c.deref.result.now ≡ file_pages c.args.sizes.now image c.args.inode =
    c.deref.ensures.value ∙ c.in_ok-pages.ensures.pages ∙ ap (λ (im : List ℕ). file_pages c.args.sizes.now im c.in_ok-number.number) c.in_ok-number.ensures.content
    ∙ ap (λ (k : ℕ). file_pages c.args.sizes.now image k) c.in_ok-number.ensures.number.0 in
    let is : IsFound image c.args.inode _ =
    found image c.args.inode c.in_ok-number.size c.requires.sound c.in_ok-number.ensures.size c.args.sizes.now _ c.deref.result.now c.requires.sizes c.in_ok-number.ensures.number.1
    (c.in_ok-pages.ensures.content ∙ c.in_ok-number.ensures.content) are in
    leaves_front image c.args.inode (g.O.Sink.written c.args.out.now) (g.O.Sink.written c.write_file.new.out) _ _ c.write_file.result c.write_file.ensures.reason
    (on_err_weaker c.write_file.result (shows_front image c.args.inode _ is (g.O.Sink.written c.args.out.now) (g.O.Sink.written c.write_file.new.out)) c.write_file.ensures.err)
