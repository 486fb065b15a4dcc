use Rattle.kl_engine.proofs.fault.write_line.Goals as goal

pub returns-in-Usage : goal.returns-in-Usage
returns-in-Usage g c = rw c.in-Usage.is c.write_parts.ensures

pub returns-in-NoType : goal.returns-in-NoType
returns-in-NoType g c = rw c.in-NoType.is (rw c.format-in-NoType.ensures.text at (rw c.as_bytes-in-NoType.ensures.value at c.write_parts-in-NoType.ensures))

pub returns-in-Read : goal.returns-in-Read
returns-in-Read g c = rw c.in-Read.is c.write_whole-in-Read.ensures

pub returns-in-Write : goal.returns-in-Write
returns-in-Write g c = rw c.in-Write.is c.write_whole-in-Write.ensures

pub returns-in-NoMemory : goal.returns-in-NoMemory
returns-in-NoMemory g c = rw c.in-NoMemory.is c.write_whole-in-NoMemory.ensures

pub returns-in-ProgramBytes : goal.returns-in-ProgramBytes
returns-in-ProgramBytes g c = rw c.in-ProgramBytes.is c.write_whole-in-ProgramBytes.ensures

pub returns-in-FileBytes : goal.returns-in-FileBytes
returns-in-FileBytes g c = rw c.in-FileBytes.is c.write_whole-in-FileBytes.ensures

pub returns-in-Nesting : goal.returns-in-Nesting
returns-in-Nesting g c = rw c.in-Nesting.is c.write_whole-in-Nesting.ensures

pub returns-in-ItemNesting : goal.returns-in-ItemNesting
returns-in-ItemNesting g c = rw c.in-ItemNesting.is c.write_whole-in-ItemNesting.ensures

pub returns-in-TermNodes : goal.returns-in-TermNodes
returns-in-TermNodes g c = rw c.in-TermNodes.is c.write_whole-in-TermNodes.ensures

pub returns-in-TermDepth : goal.returns-in-TermDepth
returns-in-TermDepth g c = rw c.in-TermDepth.is c.write_whole-in-TermDepth.ensures

pub returns-in-SchemeBytes : goal.returns-in-SchemeBytes
returns-in-SchemeBytes g c = rw c.in-SchemeBytes.is c.write_whole-in-SchemeBytes.ensures

pub returns-in-IllTyped : goal.returns-in-IllTyped
returns-in-IllTyped g c = rw c.in-IllTyped.is c.write_untyped.ensures

pub returns-in-CatalogueBytes : goal.returns-in-CatalogueBytes
returns-in-CatalogueBytes g c = rw c.in-CatalogueBytes.is c.write_whole-in-CatalogueBytes.ensures

pub returns-in-Catalogue : goal.returns-in-Catalogue
returns-in-Catalogue g c = rw c.in-Catalogue.is (rw c.format.ensures.text at (rw c.as_bytes.ensures.value at c.write_parts-in-Catalogue.ensures))

pub returns-in-NameTwice : goal.returns-in-NameTwice
returns-in-NameTwice g c = rw c.in-NameTwice.is (rw c.slice.ensures at c.write_parts-in-NameTwice.ensures)

pub returns-in-NoDriver : goal.returns-in-NoDriver
returns-in-NoDriver g c = rw c.in-NoDriver.is (rw c.slice-in-NoDriver.ensures at c.write_parts-in-NoDriver.ensures)

pub returns-in-Unsuited : goal.returns-in-Unsuited
returns-in-Unsuited g c = rw c.in-Unsuited.is (rw c.slice-in-Unsuited.ensures at c.write_parts-in-Unsuited.ensures)
