-- What a walk meets, by a name that the crates above can cite.
use Rattle.sv_check.specs.declared.sound.met.Met as declared

abbrev pub Met : Type 0
Met = declared.Met
