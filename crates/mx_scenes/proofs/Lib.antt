mod JournalLaws
