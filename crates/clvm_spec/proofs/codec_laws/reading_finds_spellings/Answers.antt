use Rattle.clvm_spec.proofs.SpelledLaws.{front-spelling}
use Rattle.clvm_spec.proofs.FaultLaws.{found_is_spelled, flaw_is_found}
use Rattle.clvm_spec.proofs.WholeLaws.{fault_is_found, whole_is_spelled, reads_spelled}
use Rattle.clvm_spec.proofs.codec_laws.reading_finds_spellings.Goals as goal

pub returns-clause-finds : goal.returns-clause-finds
returns-clause-finds c = front-spelling

pub returns-clause-reads : goal.returns-clause-reads
returns-clause-reads c = reads_spelled

pub returns-clause-found : goal.returns-clause-found
returns-clause-found c = found_is_spelled

pub returns-clause-fault : goal.returns-clause-fault
returns-clause-fault c = fault_is_found

pub returns-clause-flaw : goal.returns-clause-flaw
returns-clause-flaw c = flaw_is_found

pub returns-clause-whole : goal.returns-clause-whole
returns-clause-whole c = whole_is_spelled
